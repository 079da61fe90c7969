use Rattle.std.proofs.Common.{ℕ, ◌≡◌, ◌<◌, drop, take, length}
use Rattle.law_base.specs.Members.{IsIn}
use Rattle.cycle_order.specs.Sorting.{AreFree}
use Rattle.cycle_order.proofs.sorting.take_away.Given as goal

-- the vertices so far were not listed
abbrev pub invariant-loop-target : goal.invariant-loop-target
invariant-loop-target l = record {
  within : (v : ℕ) → IsIn v (drop l.target-index l.targets) → v < length l.counts;
  free : AreFree l.counts l.free.items;
  front : take (length l.fn.free.items) l.free.items ≡ l.fn.free.items;
  later : (v : ℕ) → IsIn v (take l.target-index l.targets) → IsIn v l.fn.free.items → ⊥;
}
