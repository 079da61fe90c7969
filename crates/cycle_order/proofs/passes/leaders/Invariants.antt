use Rattle.std.proofs.Common.{length}
use Rattle.cycle_order.proofs.Leading.{IsLeading}
use Rattle.cycle_order.proofs.passes.leaders.Given as goal

abbrev pub invariant-loop-root : goal.invariant-loop-root
invariant-loop-root l = IsLeading l.arrows l.initial.order.items l.order.items l.marks.items l.leaders.items

abbrev pub decreases-loop-root : goal.decreases-loop-root
decreases-loop-root l = length l.order.items
