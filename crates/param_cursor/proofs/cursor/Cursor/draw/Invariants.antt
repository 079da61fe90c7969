use Rattle.std.proofs.Common.{ℕ, ℤ, ◌+◌, ◌-◌, ◌<◌, ◌≤◌, ◌≡◌, length, List, Option}
use Rattle.std.specs.Prelude.{slice_index_or, slice_get, option_copied}
use Rattle.param_events.specs.declared.events.Event.{Event}
use Rattle.param_events.specs.Events.{time_of}
use Rattle.param_events.specs.Values.{value_at}
use Rattle.param_cursor.specs.Cursors.{IsDrawn}
use Rattle.param_cursor.proofs.cursor.Cursor.draw.Given as goal

-- The block is drawn to `end`, where an event stands or the block ends; so many events stand before it.
pub record Filling (old out : List ℤ) (place end count first steps began start : ℕ) (ahead : Option Event) (base : ℤ) (events : List Event) : Type 0 where
  pub drawn : IsDrawn old out 0 end (λ m. value_at base events (first + m))
  pub order : end ≤ count
  pub long : length out ≡ count
  pub within : place ≤ length events
  pub next : ahead ≡ slice_get events place
  pub before : (d : Event) → 0 < place → time_of (slice_index_or events (place - 1) d) < first + count
  pub begun : (d : Event) → 0 < place → time_of (slice_index_or events (place - 1) d) ≤ first + end
  pub behind : (d : Event) → place < length events → first + end ≤ time_of (slice_index_or events place d)
  pub there : end < count → (place < length events) × ((d : Event) → time_of (slice_index_or events place d) ≡ first + end)
  pub cost : steps + start ≤ began + 2 + place

abbrev pub invariant-loop-end : goal.invariant-loop-end
invariant-loop-end g l = Filling l.fn.out l.out l.place l.end l.count l.first l.steps l.fn.steps l.fn.self (option_copied l.next) l.line.base l.line.events

abbrev pub decreases-loop-end : goal.decreases-loop-end
decreases-loop-end g l = length l.line.events - l.place
