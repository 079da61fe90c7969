use Rattle.std.proofs.Common.{take}
use Rattle.prune_script.specs.Live.{IsMarking}
use Rattle.prune_script.proofs.live.mark.Given as goal

abbrev pub invariant-loop-node : goal.invariant-loop-node
invariant-loop-node l = IsMarking (take l.node-index l.nodes) l.fn.marks l.fn.waiting.items l.marks l.waiting.items
