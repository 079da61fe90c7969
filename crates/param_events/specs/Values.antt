-- The value that a timeline gives at a frame.
use Rattle.std.specs.Prelude.{ℕ, ◌+◌, ◌-◌, ◌*◌, ◌/◌, nat_lt, ℤ, pos, ◌+ℤ◌, ◌-ℤ◌, ◌*ℤ◌, List, length, slice_index_or, Option, Some, None, if◌then◌else◌}
use Rattle.wa_base.specs.Numbers.{rnd}
use Rattle.param_events.specs.declared.events.Event.{Event}
use Rattle.param_events.specs.declared.events.Event.TheVariants.{Set, Ramp, Curve}
use Rattle.param_events.specs.Events.{first, last, until, after}

-- n frames along a line that goes from one value to another in so many frames, rounded once
abbrev pub along : ℤ → ℤ → ℕ → ℕ → ℤ
along from to n frames = from +ℤ rnd ((to -ℤ from) *ℤ pos n) (pos frames)

abbrev pub point : List ℤ → ℕ → ℤ
point points k = slice_index_or points k (pos 0)

-- a curve n frames after its time: its points lie evenly over the duration with lines between them, and from the duration on it is the last point
abbrev pub curve_value : List ℤ → ℕ → ℕ → ℤ
curve_value points duration n =
    let segments = length points - 1 in
    let place = segments * n in
    let k = place / duration in
    if nat_lt k segments then along (point points k) (point points (k + 1)) (place - k * duration) duration else point points segments

-- from a value that is held from a frame on: a ramp that comes next is under way, and anything else is waited for
abbrev pub towards : ℤ → ℕ → Option Event → ℕ → ℤ
towards held from (Some (Ramp time value)) frame = along held value (frame - from) (time - from)
towards held from next frame = held

-- the value at a frame after one event and before the next; a ramp is never the first event
abbrev pub between : ℤ → Option Event → Option Event → ℕ → ℤ
between base None next frame = base
between base (Some (Set time value)) next frame = towards value time next frame
between base (Some (Ramp time value)) next frame = towards value time next frame
between base (Some (Curve time duration end points)) next frame =
    if nat_lt frame end then curve_value points duration (frame - time) else
    towards (curve_value points duration (end - time)) end next frame

-- the intrinsic value at a frame (paramIntrinsicValue): it lies between the last event at or before the frame and the first one after it
unfoldable pub value_at : ℤ → List Event → ℕ → ℤ
value_at base events frame = between base (last (until frame events)) (first (after frame events)) frame
