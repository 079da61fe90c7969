use Rattle.std.proofs.Common.{ℕ, ◌+◌, ◌-◌, ◌<◌, ◌≤◌, length}
use Rattle.delay_line.specs.Spans.{IsBetween, delay_at}
use Rattle.delay_line.proofs.spans.moving_end.Given as goal

pub record Going (within all : Type 0) : Type 0 where
  pub order : within
  pub between : all

abbrev pub invariant-loop-end : goal.invariant-loop-end
invariant-loop-end l = Going ((l.start < l.end) × (l.end ≤ length l.delays)) ((k : ℕ) → l.start ≤ k → k < l.end → IsBetween l.written (l.first + k) (delay_at l.delays k) l.near l.far)

abbrev pub decreases-loop-end : goal.decreases-loop-end
decreases-loop-end l = length l.delays - l.end
