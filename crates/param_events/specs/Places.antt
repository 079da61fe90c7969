-- What must hold of an event that is put among others.
use Rattle.std.specs.Prelude.{ℕ, ◌≤◌, ◌≡◌, List, [], ◌∷◌, None}
use Rattle.param_events.specs.declared.events.Event.{Event}
use Rattle.param_events.specs.Edits.{in_curve}
use Rattle.param_events.specs.Events.{time_of, end_of, until, after}
use Rattle.param_events.specs.Timeline.{IsSound, IsNoRamp}

-- the first of the events is not before a frame
abbrev pub IsFirstFrom : ℕ → List Event → Type 0
IsFirstFrom frame [] = Unit {0}
IsFirstFrom frame (event ∷ events) = frame ≤ time_of event

pub record MayStand (events : List Event) (event : Event) : Type 0 where
  pub sound : IsSound event
  pub outside : in_curve (time_of event) events ≡ None
  -- nothing comes before it only if it is no ramp
  pub begins : until (time_of event) events ≡ [] → IsNoRamp event
  -- what comes after it does so after its end
  pub past : IsFirstFrom (end_of event) (after (time_of event) events)
