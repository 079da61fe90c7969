use Rattle.convolve.proofs.Hearing.{Hearing}
use Rattle.convolve.proofs.convolver.hear_channel.Given as goal

abbrev pub invariant-loop-k : goal.invariant-loop-k
invariant-loop-k l = Hearing l.response l.initial.line l.line l.x l.y l.k
