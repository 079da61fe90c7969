-- What the calls that schedule automation make of a timeline, and why they are refused. They are cases on the whole list of events.
use Rattle.std.specs.Prelude.{ℕ, ◌+◌, nat_le, nat_lt, ℤ, pos, negsuc, unsigned_abs, Bool, true, false, not, ◌&&◌, List, [], ◌∷◌, ◌++◌, length, Option, Some, None, option_map, if◌then◌else◌, ◌≡◌}
use Rattle.std.specs.List.{filter, position}
use Rattle.std.specs.Option.{option_or}
use Rattle.std.specs.Int.{is_negative, int_max}
use Rattle.param_events.specs.declared.events.Event.{Event}
use Rattle.param_events.specs.declared.events.Event.TheVariants.{Set, Ramp, Curve}
use Rattle.param_events.specs.declared.refusals.ParamErr.{ParamErr}
use Rattle.param_events.specs.declared.refusals.ParamErr.TheVariants.{NegativeTime, BadDuration, ShortCurve, InCurve, CurveOver, NoMemory}
use Rattle.param_events.specs.Events.{time_of, until, after, first, last, put}
use Rattle.param_events.specs.Timeline.{Timeline}
use Rattle.param_events.specs.Values.{value_at}

-- no call reaches back: a time before now stands for now
abbrev pub moment : ℕ → ℤ → ℕ
moment now time = unsigned_abs (int_max time (pos now))

-- ---- why a call is refused

abbrev pub refused_where : Bool → ParamErr → Option ParamErr
refused_where true refusal = Some refusal
refused_where false refusal = None

unfoldable pub time_refusal : ℤ → Option ParamErr
time_refusal time = refused_where (is_negative time) NegativeTime

-- whether a curve is under way at a time: it has begun and not ended
abbrev pub runs_at : ℕ → Event → Bool
runs_at at (Curve time duration end points) = nat_le time at && nat_lt at end
runs_at at other = false

-- no event is put where a curve is under way; the refusal names the first such curve
unfoldable pub in_curve : ℕ → List Event → Option ParamErr
in_curve at events = option_map InCurve (position (runs_at at) events)

-- whether an event lies strictly between two times
abbrev pub lies_between : ℕ → ℕ → Event → Bool
lies_between start finish event = nat_lt start (time_of event) && nat_lt (time_of event) finish

-- no curve is put over events that are there; the refusal names the first of them
unfoldable pub curve_over : ℕ → ℕ → List Event → Option ParamErr
curve_over start finish events = option_map CurveOver (position (lies_between start finish) events)

-- why an event of one moment is refused
unfoldable pub event_refusal : ℕ → ℤ → List Event → Option ParamErr
event_refusal now time events = option_or (time_refusal time) (in_curve (moment now time) events)

abbrev pub is_positive : ℤ → Bool
is_positive (pos n) = nat_lt 0 n
is_positive (negsuc n) = false

-- why a curve of so many points is refused
unfoldable pub span_refusal : ℕ → ℕ → ℤ → ℤ → List Event → Option ParamErr
span_refusal now count time duration events =
    let at = moment now time in
    option_or (refused_where (nat_lt count 2) ShortCurve)
    (option_or (time_refusal time)
    (option_or (refused_where (not (is_positive duration)) BadDuration)
    (option_or (in_curve at events) (curve_over at (at + unsigned_abs duration) events))))

-- why a curve is refused: the first of these that holds
abbrev pub curve_refusal : ℕ → List ℤ → ℤ → ℤ → List Event → Option ParamErr
curve_refusal now points time duration events = span_refusal now (length points) time duration events

-- what an error says: the refusal, and where there is none, that memory ran out
abbrev pub IsCause : ParamErr → Option ParamErr → Type 0
IsCause error None = error ≡ NoMemory
IsCause error (Some refusal) = error ≡ refusal

-- ---- what a call makes of a timeline

-- setValueAtTime
abbrev pub value_set : Timeline → ℕ → ℤ → ℤ → Timeline
value_set line now value time = record line { events = put line.events (Set (moment now time) value) }

-- a ramp that nothing comes before begins now, at the current value
abbrev pub begun : List Event → ℤ → ℕ → List Event → List Event
begun [] slot now events = put events (Set now slot)
begun (event ∷ before) slot now events = events

-- linearRampToValueAtTime
abbrev pub ramped : Timeline → ℕ → ℤ → ℤ → Timeline
ramped line now value time =
    let at = moment now time in
    record line { events = put (begun (until at line.events) line.slot now line.events) (Ramp at value) }

-- setValueCurveAtTime
abbrev pub curved : Timeline → ℕ → List ℤ → ℤ → ℤ → Timeline
curved line now points time duration =
    let at = moment now time in
    record line { events = put line.events (Curve at (unsigned_abs duration) (at + unsigned_abs duration) points) }

-- setting the attribute `value`
abbrev pub value_now : Timeline → ℕ → ℤ → Timeline
value_now line now value = record line { slot = value; events = put line.events (Set now value) }

-- whether an event stays where all is cancelled from a time on: it begins before, and as a curve it has ended before
abbrev pub stays : ℕ → Event → Bool
stays at (Curve time duration end points) = nat_lt time at && nat_lt end at
stays at other = nat_lt (time_of other) at

-- where no event is left before or now, the current value becomes the base
abbrev pub base_after : List Event → ℤ → ℤ → ℤ
base_after [] base slot = slot
base_after (event ∷ events) base slot = base

-- cancelScheduledValues
abbrev pub cancelled : Timeline → ℕ → ℤ → Timeline
cancelled line now time =
    let kept = filter (stays (moment now time)) line.events in
    record { base = base_after (until now kept) line.base line.slot; slot = line.slot; events = kept }

-- whether it is a curve that ends after a time
abbrev pub goes_past : ℕ → Option Event → Bool
goes_past at (Some (Curve time duration end points)) = nat_lt at end
goes_past at other = false

abbrev pub is_ramp : Option Event → Bool
is_ramp (Some (Ramp time value)) = true
is_ramp other = false

-- a curve that is cut keeps its points and its duration, and so its pace
abbrev pub cut_at : ℕ → Event → Event
cut_at at (Curve time duration end points) = Curve time duration at points
cut_at at other = other

abbrev pub with_last_cut : ℕ → List Event → List Event
with_last_cut at [] = []
with_last_cut at (event ∷ []) = cut_at at event ∷ []
with_last_cut at (event ∷ next ∷ events) = event ∷ with_last_cut at (next ∷ events)

-- what is left of the events before a time and after it, where a value is held from then on: a curve that is under way ends there;
-- otherwise a ramp that is under way ends there, with that value
abbrev pub held : List Event → List Event → ℕ → ℤ → List Event
held before later at value =
    if goes_past at (last before) then with_last_cut at before else
    if is_ramp (first later) then before ++ Ramp at value ∷ [] else before

-- cancelAndHoldAtTime
abbrev pub held_from : Timeline → ℕ → ℤ → Timeline
held_from line now time =
    let at = moment now time in
    record line { events = held (until at line.events) (after at line.events) at (value_at line.base line.events at) }
