use Rattle.std.proofs.Common.{pos}
use Rattle.sched_source.specs.Drawing.{IsDrawn}
use Rattle.sched_source.proofs.playing.draw_silence.Given as goal

abbrev pub invariant-loop-m : goal.invariant-loop-m
invariant-loop-m l = IsDrawn l.fn.out l.out l.from l.m (λ m. pos 0)
