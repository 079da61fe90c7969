use Rattle.std.proofs.Common.{◌≡◌, ◌+◌, ◌<◌, ℕ, true}
use Rattle.delay_line.specs.Spans.{IsBetween, delay_at}
use Rattle.delay_line.proofs.spans.are_between.Given as goal

abbrev pub invariant-loop-k : goal.invariant-loop-k
invariant-loop-k l = l.are_between ≡ true → (k : ℕ) → k < l.k → IsBetween l.written (l.first + k) (delay_at l.delays k) l.near l.far
