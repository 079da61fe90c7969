use Rattle.shaper_iir.proofs.Parts.{HearingAll}
use Rattle.shaper_iir.proofs.iir.filter_all.Given as goal

abbrev pub invariant-loop-c : goal.invariant-loop-c
invariant-loop-c l = HearingAll l.forward l.back l.initial.channels l.channels l.x l.y l.frames l.c
