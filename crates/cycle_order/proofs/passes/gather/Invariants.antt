use Rattle.std.proofs.Common.{◌+◌, ◌-◌, length, filter, not}
use Rattle.cycle_order.proofs.Leading.{IsGathering}
use Rattle.cycle_order.proofs.passes.gather.Given as goal

abbrev pub invariant-loop-first : goal.invariant-loop-first
invariant-loop-first l = IsGathering l.back l.root l.fn.marks l.marks l.tree.items l.first

abbrev pub decreases-loop-first : goal.decreases-loop-first
decreases-loop-first l = (length (filter not l.marks) + length l.tree.items) - l.first
