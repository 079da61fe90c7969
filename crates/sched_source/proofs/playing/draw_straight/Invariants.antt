use Rattle.std.proofs.Common.{◌≡◌, ◌+◌, ◌-◌, ◌*◌}
use Rattle.sched_source.specs.Drawing.{at, IsDrawn}
use Rattle.sched_source.proofs.playing.draw_straight.Given as goal

pub record Under (all here : Type 0) : Type 0 where
  pub drawn : all
  pub next : here

abbrev pub invariant-loop-m : goal.invariant-loop-m
invariant-loop-m l = Under (IsDrawn l.fn.out l.out l.from l.m (λ m. at l.channel (l.at + (m - l.from) * l.rate))) (l.next ≡ l.at + (l.m - l.from) * l.rate)
