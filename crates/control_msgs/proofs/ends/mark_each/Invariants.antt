use Rattle.std.proofs.Common.{◌≡◌, ◌++◌, map, take, drop, length}
use Rattle.control_msgs.specs.Messages.{marked}
use Rattle.control_msgs.proofs.ends.mark_each.Given as goal

abbrev pub invariant-loop-place : goal.invariant-loop-place
invariant-loop-place l = record {
  same : length l.scheds.items ≡ length l.fn.scheds.items;
  so_far : l.scheds.items ≡ map (marked l.next) (take l.place l.fn.scheds.items) ++ drop l.place l.fn.scheds.items;
}
