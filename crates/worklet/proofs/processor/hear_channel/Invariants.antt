use Rattle.worklet.proofs.Hearing.{Hearing}
use Rattle.worklet.proofs.processor.hear_channel.Given as goal

abbrev pub invariant-loop-k : goal.invariant-loop-k
invariant-loop-k l = Hearing l.program l.initial.cells l.cells l.x l.y l.k
