-- Where a cursor stands, and what it draws.
use Rattle.std.specs.Prelude.{ℕ, ◌<◌, ◌≤◌, ◌≡◌, nat_le, nat_lt, ℤ, pos, ◌&&◌, List, length, slice_index_or}
use Rattle.std.specs.List.{filter}
use Rattle.param_events.specs.declared.events.Event.{Event}
use Rattle.param_events.specs.Events.{time_of}

-- the place at which a cursor stands that stands at a frame: how many events have a time before it
abbrev pub place_at : ℕ → List Event → ℕ
place_at frame events = length (filter (λ event. nat_lt (time_of event) frame) events)

-- the items from one index to before another are these values; those before it stay
pub record IsDrawn (old new : List ℤ) (at end : ℕ) (value : ℕ → ℤ) : Type 0 where
  pub drawn : (m : ℕ) → at ≤ m → m < end → slice_index_or new m (pos 0) ≡ value m
  pub kept : (m : ℕ) → m < at → slice_index_or new m (pos 0) ≡ slice_index_or old m (pos 0)

-- the events with a time from one frame to before another
abbrev pub within : ℕ → ℕ → List Event → List Event
within from to events = filter (λ event. nat_le from (time_of event) && nat_lt (time_of event) to) events
