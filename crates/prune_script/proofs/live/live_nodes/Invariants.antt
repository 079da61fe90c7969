use Rattle.std.proofs.Common.{◌+◌, length, filter, not}
use Rattle.prune_script.proofs.Marking.{IsSpreading}
use Rattle.prune_script.proofs.live.live_nodes.Given as goal

abbrev pub invariant-loop-node : goal.invariant-loop-node
invariant-loop-node l = IsSpreading l.sources l.live.items l.waiting.items

-- nodes that are not marked, and those that wait
abbrev pub decreases-loop-node : goal.decreases-loop-node
decreases-loop-node l = length (filter not l.live.items) + length l.waiting.items
