use Rattle.std.proofs.Common.{ℕ, ◌+◌, ◌<◌}
use Rattle.delay_line.specs.Spans.{IsReached, delay_at}
use Rattle.effect_tests.proofs.tried.Tried.has_all.Given as goal

abbrev pub invariant-loop-k : goal.invariant-loop-k
invariant-loop-k l = (k : ℕ) → k < l.k → IsReached l.self.line (l.first + k) (delay_at l.delays k)
