use Rattle.convolve.proofs.Hearing.{HearingAll}
use Rattle.convolve.proofs.convolver.hear_all.Given as goal

abbrev pub invariant-loop-c : goal.invariant-loop-c
invariant-loop-c l = HearingAll l.response l.initial.lines l.lines l.x l.y l.frames l.c
