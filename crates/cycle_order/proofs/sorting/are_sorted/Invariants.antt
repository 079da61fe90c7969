use Rattle.std.proofs.Common.{◌≡◌, ◌≤◌, length}
use Rattle.cycle_order.specs.Sorting.{AreFree, IsForward}
use Rattle.cycle_order.proofs.sorting.are_sorted.Given as goal

-- so many vertices are taken away
abbrev pub invariant-loop-place : goal.invariant-loop-place
invariant-loop-place l = record {
  number : length l.counts.items ≡ length l.arrows;
  free : AreFree l.counts.items l.free.items;
  listed : l.place ≤ length l.free.items;
  forward : IsForward l.arrows l.free.items l.place;
}
