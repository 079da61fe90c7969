use Rattle.std.proofs.Common.{◌≡◌, ◌-◌, ◌≤◌, ◌<◌}
use Rattle.sched_source.specs.Drawing.{at, IsDrawn, around}
use Rattle.sched_source.proofs.playing.draw_rounds.Given as goal

pub record Under (all here low high order ends : Type 0) : Type 0 where
  pub drawn : all
  pub next : here
  pub from : low
  pub within : high
  pub begun : order
  pub stops : ends

abbrev pub invariant-loop-m : goal.invariant-loop-m
invariant-loop-m l =
    Under (IsDrawn l.fn.out l.out l.from l.m (λ m. at l.channel (around l.round.start l.round.end l.round.at 1 (m - l.from))))
    (l.m < l.to → l.at ≡ around l.round.start l.round.end l.round.at 1 (l.m - l.from)) (l.round.start ≤ l.at) (l.at < l.round.end) (l.from ≤ l.m) (l.m ≤ l.to)

abbrev pub decreases-loop-m : goal.decreases-loop-m
decreases-loop-m l = l.to - l.m
