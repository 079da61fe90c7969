use Rattle.std.proofs.Common.{◌≡◌, ◌-◌, ◌≤◌, ◌<◌}
use Rattle.sched_source.specs.Drawing.{at, IsDrawn, around}
use Rattle.sched_source.proofs.playing.draw_jumps.Given as goal

pub record Under (all here low high : Type 0) : Type 0 where
  pub drawn : all
  pub next : here
  pub from : low
  pub within : high

abbrev pub invariant-loop-m : goal.invariant-loop-m
invariant-loop-m l =
    Under (IsDrawn l.fn.out l.out l.from l.m (λ m. at l.channel (around l.round.start l.round.end l.round.at l.round.jump (m - l.from))))
    (l.at ≡ around l.round.start l.round.end l.round.at l.round.jump (l.m - l.from)) (l.round.start ≤ l.at) (l.at < l.round.end)
