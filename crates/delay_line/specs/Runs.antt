-- Parts of what is read with one delay that have equally many channels.
use Rattle.std.specs.Prelude.{ℕ, ◌+◌, ◌<◌, ◌≤◌, ◌≡◌}
use Rattle.delay_line.specs.Lines.{Line}
use Rattle.delay_line.specs.Spans.{heard_count}
use Rattle.delay_line.specs.declared.spans.Span.{Span}

-- frames from one on that have one count, where the delay is d frames
pub record IsSteadySpan (line : Line) (first d start : ℕ) (s : Span) : Type 0 where
  pub begins : s.start ≡ start
  pub some : start < s.end
  pub within : s.end ≤ line.block
  pub alike : (k : ℕ) → start ≤ k → k < s.end → heard_count line (first + k) d ≡ s.count
