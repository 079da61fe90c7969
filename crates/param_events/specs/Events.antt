-- The events of a timeline by their times.
use Rattle.std.specs.Prelude.{ℕ, List, ◌∷◌, ◌++◌, length, ◌-◌, Option, slice_get, nat_le, nat_lt}
use Rattle.std.specs.List.{filter}
use Rattle.param_events.specs.declared.events.Event.{Event}
use Rattle.param_events.specs.declared.events.Event.TheVariants.{Set, Ramp, Curve}

-- the time from which an event holds; a ramp ends at its time
abbrev pub time_of : Event → ℕ
time_of (Set time value) = time
time_of (Ramp time value) = time
time_of (Curve time duration end points) = time

-- the time from which an event's last value is held
abbrev pub end_of : Event → ℕ
end_of (Set time value) = time
end_of (Ramp time value) = time
end_of (Curve time duration end points) = end

-- the events with a time at or before a frame
abbrev pub until : ℕ → List Event → List Event
until frame events = filter (λ event. nat_le (time_of event) frame) events

-- the events with a later time
abbrev pub after : ℕ → List Event → List Event
after frame events = filter (λ event. nat_lt frame (time_of event)) events

abbrev pub first : List Event → Option Event
first events = slice_get events 0

abbrev pub last : List Event → Option Event
last events = slice_get events (length events - 1)

-- the events with one more: it stands after all that have a time at or before its own
abbrev pub put : List Event → Event → List Event
put events event = until (time_of event) events ++ event ∷ after (time_of event) events
