-- What contracts see of a timeline, and what holds of its events.
use Rattle.std.specs.Prelude.{ℕ, ◌+◌, ◌≤◌, ℤ, List, [], ◌∷◌, length}
use Rattle.param_events.specs.declared.events.Event.{Event}
use Rattle.param_events.specs.declared.events.Event.TheVariants.{Set, Ramp, Curve}
use Rattle.param_events.specs.Events.{time_of, end_of}

pub record Timeline : Type 0 where
  -- the value before the first event
  pub base : ℤ
  -- the current value slot
  pub slot : ℤ
  pub events : List Event

-- a curve lasts for at least one frame and has at least two points; it ends when its duration is over, or before where it was cut
pub record IsCurve (time duration end count : ℕ) : Type 0 where
  pub begins : time ≤ end
  pub ends : end ≤ time + duration
  pub lasts : 1 ≤ duration
  pub has_points : 2 ≤ count

-- what holds of an event by itself
abbrev pub IsSound : Event → Type 0
IsSound (Curve time duration end points) = IsCurve time duration end (length points)
IsSound (Set time value) = Unit {0}
IsSound (Ramp time value) = Unit {0}

-- sound events in order of time: none is before this frame, and none before the end of the one that stands before it
abbrev pub IsOrderedFrom : ℕ → List Event → Type 0
IsOrderedFrom frame [] = Unit {0}
IsOrderedFrom frame (event ∷ events) = (frame ≤ time_of event) × IsSound event × IsOrderedFrom (end_of event) events

abbrev pub IsNoRamp : Event → Type 0
IsNoRamp (Ramp time value) = ⊥
IsNoRamp other = Unit {0}

-- the first event is no ramp
abbrev pub IsBegun : List Event → Type 0
IsBegun [] = Unit {0}
IsBegun (event ∷ events) = IsNoRamp event

-- what holds of the events of every timeline
pub record IsTimeline (events : List Event) : Type 0 where
  pub begun : IsBegun events
  pub ordered : IsOrderedFrom 0 events
