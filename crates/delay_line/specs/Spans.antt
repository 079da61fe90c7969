-- Parts of what is kept and of what is read that have equally many channels.
use Rattle.std.specs.Prelude.{ℕ, ◌+◌, ◌-◌, ◌/◌, ◌<◌, ◌≤◌, ◌≡◌, nat_lt, if◌then◌else◌, List, length, slice_index_or}
use Rattle.delay_line.specs.Lines.{Line, from_end, count_at, IsKept}
use Rattle.delay_line.specs.declared.counts.Stretch.{Stretch}
use Rattle.delay_line.specs.declared.spans.Span.{Span}

-- blocks one after another, counted back from the newest, which include block i and have one count
pub record IsStretch (counts : List ℕ) (i : ℕ) (s : Stretch) : Type 0 where
  pub low : s.first ≤ i
  pub high : i < s.end
  pub alike : (j : ℕ) → s.first ≤ j → j < s.end → j < length counts → from_end counts j 0 ≡ s.count

-- the number of channels of what is read at frame f with a delay of d frames; nothing has a channel before birth
abbrev pub heard_count : Line → ℕ → ℕ → ℕ
heard_count line f d = if nat_lt f d then 0 else count_at line ((f - d) / line.block)

-- the delay of frame k of a block
abbrev pub delay_at : List ℕ → ℕ → ℕ
delay_at delays k = slice_index_or delays k 0

-- what frame f reads with a delay of d frames lies before birth or is kept
abbrev pub IsReached : Line → ℕ → ℕ → Type 0
IsReached line f d = d ≤ f → IsKept line (f - d)

-- so many frames follow what frame f reads with a delay of d frames, at least `near` and fewer than `far`
pub record IsBetween (written f d near far : ℕ) : Type 0 where
  pub born : d ≤ f
  pub low : near ≤ written - (f - d) - 1
  pub high : written - (f - d) - 1 < far

-- frames from one on that have one count
pub record IsSpan (line : Line) (first : ℕ) (delays : List ℕ) (start : ℕ) (s : Span) : Type 0 where
  pub begins : s.start ≡ start
  pub some : start < s.end
  pub within : s.end ≤ length delays
  pub alike : (k : ℕ) → start ≤ k → k < s.end → heard_count line (first + k) (delay_at delays k) ≡ s.count
