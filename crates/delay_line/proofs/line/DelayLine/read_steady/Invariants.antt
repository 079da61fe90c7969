use Rattle.std.proofs.Common.{ℕ, ◌≡◌, ◌+◌, ◌-◌, ◌<◌, ◌≤◌}
use Rattle.mix_rules.specs.Blocks.{sample}
use Rattle.delay_line.specs.Delays.{Writer, delayed}
use Rattle.delay_line.specs.Lines.{Keeps}
use Rattle.delay_line.specs.Spans.{heard_count}
use Rattle.delay_line.proofs.line.DelayLine.read_steady.Given as goal

pub record Reading (within all : Type 0) : Type 0 where
  pub order : within
  pub done : all

abbrev pub invariant-loop-start : goal.invariant-loop-start
invariant-loop-start l = Reading (l.start ≤ l.self.block)
    ((writer : Writer) (c k : ℕ) → Keeps l.self writer → c < l.channels → k < l.start → heard_count l.self (l.first + k) l.delay ≤ l.channels
    → sample l.self.block l.out c k ≡ delayed l.self.block writer l.request.interp l.channels (l.first + k) l.delay c)

abbrev pub decreases-loop-start : goal.decreases-loop-start
decreases-loop-start l = l.self.block - l.start
