use Rattle.std.proofs.Common.{ℕ, ◌≡◌, ◌+◌, ◌<◌, ◌≤◌}
use Rattle.mix_rules.specs.Blocks.{sample}
use Rattle.delay_line.specs.Delays.{Writer, delayed}
use Rattle.delay_line.specs.Lines.{Keeps}
use Rattle.delay_line.specs.Spans.{heard_count}
use Rattle.delay_line.proofs.line.DelayLine.read_steady_span.Given as goal

pub record Reading (here rest : Type 0) : Type 0 where
  pub done : here
  pub before : rest

abbrev pub invariant-loop-c : goal.invariant-loop-c
invariant-loop-c l = Reading
    ((writer : Writer) (c k : ℕ) → Keeps l.self writer → c < l.c → l.span.start ≤ k → k < l.span.end → heard_count l.self (l.request.first + k) l.delay ≤ l.request.channels
    → sample l.self.block l.out c k ≡ delayed l.self.block writer l.request.interp l.request.channels (l.request.first + k) l.delay c)
    ((c k : ℕ) → c < l.request.channels → k < l.span.start → sample l.self.block l.out c k ≡ sample l.self.block l.fn.out c k)
