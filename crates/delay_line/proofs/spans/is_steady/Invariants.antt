use Rattle.std.proofs.Common.{◌≡◌, ◌<◌, ℕ, true}
use Rattle.delay_line.specs.Spans.{delay_at}
use Rattle.delay_line.proofs.spans.is_steady.Given as goal

abbrev pub invariant-loop-delay : goal.invariant-loop-delay
invariant-loop-delay l = l.is_steady ≡ true → (k : ℕ) → k < l.delay-index → delay_at l.delays k ≡ delay_at l.delays 0
