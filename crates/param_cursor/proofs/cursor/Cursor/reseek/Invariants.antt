use Rattle.std.proofs.Common.{ℕ, ◌+◌, ◌-◌, ◌<◌, ◌≤◌, ◌^◌, length}
use Rattle.std.specs.Prelude.{slice_index_or}
use Rattle.param_events.specs.declared.events.Event.{Event}
use Rattle.param_events.specs.Events.{time_of}
use Rattle.param_cursor.proofs.cursor.Cursor.reseek.Given as goal

pub record Between (low high steps began first count : ℕ) (time : ℕ → Event → ℕ) : Type 0 where
  pub order : low ≤ high
  pub within : high ≤ count
  pub before : (d : Event) → 0 < low → time (low - 1) d < first
  pub behind : (d : Event) → high < count → first ≤ time high d
  pub cost : (d : ℕ) → count < 2 ^ d → (j : ℕ) × (high - low < 2 ^ j) × (steps + j ≤ began + d)

abbrev pub invariant-loop-low : goal.invariant-loop-low
invariant-loop-low g l = Between l.low l.high l.steps l.fn.steps l.first (length l.line.events) (λ k d. time_of (slice_index_or l.line.events k d))

abbrev pub decreases-loop-low : goal.decreases-loop-low
decreases-loop-low g l = l.high - l.low
