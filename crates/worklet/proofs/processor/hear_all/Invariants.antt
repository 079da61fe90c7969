use Rattle.worklet.proofs.Hearing.{HearingAll}
use Rattle.worklet.proofs.processor.hear_all.Given as goal

abbrev pub invariant-loop-c : goal.invariant-loop-c
invariant-loop-c l = HearingAll l.program l.initial.channels l.channels l.x l.y l.frames l.c
