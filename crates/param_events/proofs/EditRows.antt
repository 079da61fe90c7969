-- Worked timelines, as edits make them one after another.
use Rattle.std.proofs.Common.{ℕ, ℤ, pos, negsuc, ◌≡◌, List, [], ◌∷◌, refl, map, Some, None}
use Rattle.param_events.specs.declared.events.Event.TheVariants.{Set, Ramp, Curve}
use Rattle.param_events.specs.declared.refusals.ParamErr.TheVariants.{NegativeTime, BadDuration, ShortCurve, InCurve, CurveOver}
use Rattle.param_events.specs.Edits.{value_set, ramped, curved, value_now, cancelled, held_from, in_curve, curve_over, time_refusal, event_refusal, span_refusal, curve_refusal}
use Rattle.param_events.specs.Timeline.{Timeline}
use Rattle.param_events.specs.Values.{value_at}

abbrev new_line : ℤ → Timeline
new_line base = record { base = base; slot = base; events = [] }

abbrev one : ℤ
one = pos 16777216

abbrev values : Timeline → List ℕ → List ℤ
values line frames = map (value_at line.base line.events) frames

-- a line from 0 to 1.0 in three frames
ramp_after_a_set : values (ramped (value_set (new_line (pos 0)) 0 (pos 0) (pos 0)) 0 one (pos 3)) (0 ∷ 1 ∷ 2 ∷ 3 ∷ 4 ∷ [])
    ≡ pos 0 ∷ pos 5592405 ∷ pos 11184811 ∷ one ∷ one ∷ []
unfolding value_at
ramp_after_a_set = refl

-- a curve of three points over five frames, and a line from its end to 0
ramp_after_a_curve : values (ramped (curved (new_line one) 0 (pos 0 ∷ one ∷ pos 8388608 ∷ []) (pos 0) (pos 5)) 0 (pos 0) (pos 9)) (0 ∷ 1 ∷ 2 ∷ 3 ∷ 4 ∷ 5 ∷ 6 ∷ 7 ∷ 8 ∷ 9 ∷ [])
    ≡ pos 0 ∷ pos 6710886 ∷ pos 13421773 ∷ pos 15099494 ∷ pos 11744051 ∷ pos 8388608 ∷ pos 6291456 ∷ pos 4194304 ∷ pos 2097152 ∷ pos 0 ∷ []
unfolding value_at
ramp_after_a_curve = refl

-- a curve from frame 10 to before frame 30
abbrev with_curve : Timeline
with_curve = curved (new_line one) 0 (pos 0 ∷ one ∷ []) (pos 10) (pos 20)

-- no event is put in it, from its first frame on and before its end
set_in_a_curve : (event_refusal 0 (pos 10) with_curve.events ≡ Some (InCurve 0)) × (event_refusal 0 (pos 29) with_curve.events ≡ Some (InCurve 0)) × (event_refusal 0 (pos 30) with_curve.events ≡ None)
    × (event_refusal 0 (pos 9) with_curve.events ≡ None)
unfolding event_refusal time_refusal in_curve
set_in_a_curve = (refl, refl, refl, refl)

-- neither is `value` set in it; a time before now stands for now
now_in_a_curve : (in_curve 15 with_curve.events ≡ Some (InCurve 0)) × (event_refusal 15 (pos 3) with_curve.events ≡ Some (InCurve 0))
unfolding event_refusal time_refusal in_curve
now_in_a_curve = (refl, refl)

-- a line to 1.0 at frame 8 that is held at frame 3
held_ramp : Timeline
unfolding value_at
held_ramp = held_from (ramped (value_set (new_line one) 0 (pos 0) (pos 0)) 0 one (pos 8)) 0 (pos 3)

held_ramp_values : values held_ramp (0 ∷ 1 ∷ 2 ∷ 3 ∷ 4 ∷ 100 ∷ []) ≡ pos 0 ∷ pos 2097152 ∷ pos 4194304 ∷ pos 6291456 ∷ pos 6291456 ∷ pos 6291456 ∷ []
unfolding held_ramp value_at
held_ramp_values = refl

-- a curve over eight frames that is held at frame 3 keeps its pace, and a line goes from there to 0
held_curve : Timeline
unfolding value_at
held_curve = ramped (held_from (curved (new_line one) 0 (pos 0 ∷ one ∷ pos 0 ∷ []) (pos 0) (pos 8)) 0 (pos 3)) 0 (pos 0) (pos 5)

held_curve_values : values held_curve (0 ∷ 1 ∷ 2 ∷ 3 ∷ 4 ∷ 5 ∷ 6 ∷ []) ≡ pos 0 ∷ pos 4194304 ∷ pos 8388608 ∷ pos 12582912 ∷ pos 6291456 ∷ pos 0 ∷ pos 0 ∷ []
unfolding held_curve value_at
held_curve_values = refl

-- a cancel at a curve's end takes the finished curve away too, and the current value becomes the base
cancel_at_a_curves_end : cancelled (record (curved (new_line one) 0 (pos 0 ∷ one ∷ []) (pos 0) (pos 256)) { slot = pos 8388608 }) 256 (pos 256) ≡ new_line (pos 8388608)
cancel_at_a_curves_end = refl

-- a curve is refused over an event that lies strictly within it, and not over one at its first frame or at its end
curve_over_an_event : (curve_refusal 0 (pos 0 ∷ one ∷ []) (pos 10) (pos 5) (Set 12 (pos 0) ∷ []) ≡ Some (CurveOver 0)) × (curve_refusal 0 (pos 0 ∷ one ∷ []) (pos 12) (pos 5) (Set 12 (pos 0) ∷ []) ≡ None)
    × (curve_refusal 0 (pos 0 ∷ one ∷ []) (pos 7) (pos 5) (Set 12 (pos 0) ∷ []) ≡ None)
unfolding span_refusal time_refusal in_curve curve_over
curve_over_an_event = (refl, refl, refl)

-- the refusals of a curve, each before those that come after it
curve_refusals_in_order : (curve_refusal 0 (pos 0 ∷ []) (negsuc 0) (pos 0) with_curve.events ≡ Some ShortCurve) × (curve_refusal 0 (pos 0 ∷ one ∷ []) (negsuc 0) (pos 0) with_curve.events ≡ Some NegativeTime)
    × (curve_refusal 0 (pos 0 ∷ one ∷ []) (pos 20) (pos 0) with_curve.events ≡ Some BadDuration) × (curve_refusal 0 (pos 0 ∷ one ∷ []) (pos 20) (pos 5) (Set 3 (pos 0) ∷ with_curve.events) ≡ Some (InCurve 1))
    × (curve_refusal 0 (pos 0 ∷ one ∷ []) (pos 2) (pos 9) (Set 2 (pos 0) ∷ Set 3 (pos 0) ∷ with_curve.events) ≡ Some (CurveOver 1))
unfolding span_refusal time_refusal in_curve curve_over
curve_refusals_in_order = (refl, refl, refl, refl, refl)

-- events of one time stand in the order in which they were put, and the last of them counts
ties : (value_set (value_set (value_set (new_line one) 0 (pos 1) (pos 5)) 0 (pos 2) (pos 9)) 0 (pos 3) (pos 5)).events ≡ Set 5 (pos 1) ∷ Set 5 (pos 3) ∷ Set 9 (pos 2) ∷ []
ties = refl

-- an event at a curve's end counts from there on, whether it was put in before the curve or after it
set_at_a_curves_end : (values (curved (value_set (new_line one) 0 (pos 7) (pos 5)) 0 (pos 0 ∷ pos 4 ∷ []) (pos 1) (pos 4)) (4 ∷ 5 ∷ 6 ∷ []) ≡ pos 3 ∷ pos 7 ∷ pos 7 ∷ [])
    × (values (value_set (curved (new_line one) 0 (pos 0 ∷ pos 4 ∷ []) (pos 1) (pos 4)) 0 (pos 7) (pos 5)) (4 ∷ 5 ∷ 6 ∷ []) ≡ pos 3 ∷ pos 7 ∷ pos 7 ∷ [])
unfolding value_at
set_at_a_curves_end = (refl, refl)

-- a curve that is held at its first frame holds its first point, and an event may be put there
held_at_the_first_frame : Timeline
unfolding value_at
held_at_the_first_frame = held_from with_curve 0 (pos 10)

first_point_is_held : (held_at_the_first_frame.events ≡ Curve 10 20 10 (pos 0 ∷ one ∷ []) ∷ []) × (values held_at_the_first_frame (9 ∷ 10 ∷ 30 ∷ []) ≡ one ∷ pos 0 ∷ pos 0 ∷ [])
    × (event_refusal 0 (pos 10) held_at_the_first_frame.events ≡ None)
unfolding held_at_the_first_frame value_at event_refusal time_refusal in_curve
first_point_is_held = (refl, refl, refl)

-- one that is held at its last frame does not reach its last point, and one that is held at its end does
held_at_the_last_frame : values (held_from with_curve 0 (pos 29)) (28 ∷ 29 ∷ 30 ∷ 31 ∷ []) ≡ pos 15099494 ∷ pos 15938355 ∷ pos 15938355 ∷ pos 15938355 ∷ []
unfolding value_at
held_at_the_last_frame = refl

held_at_the_end : held_from with_curve 0 (pos 30) ≡ with_curve
unfolding value_at
held_at_the_end = refl

-- a hold at a ramp's end keeps it whole and takes away what comes later; a ramp that comes next has begun there, and ends at once
held_at_a_ramps_end : ((held_from (value_set (ramped (value_set (new_line one) 0 (pos 0) (pos 0)) 0 one (pos 8)) 0 (pos 5) (pos 9)) 0 (pos 8)).events ≡ Set 0 (pos 0) ∷ Ramp 8 one ∷ [])
    × ((held_from (ramped (ramped (value_set (new_line one) 0 (pos 0) (pos 0)) 0 one (pos 8)) 0 (pos 5) (pos 9)) 0 (pos 8)).events ≡ Set 0 (pos 0) ∷ Ramp 8 one ∷ Ramp 8 one ∷ [])
unfolding value_at
held_at_a_ramps_end = (refl, refl)

-- a ramp that nothing comes before begins now at the current value, which need not be the base; so does one before all others
ramp_with_nothing_before : (ramped (record (new_line one) { slot = pos 3 }) 128 (pos 9) (pos 200)).events ≡ Set 128 (pos 3) ∷ Ramp 200 (pos 9) ∷ []
ramp_with_nothing_before = refl

ramp_before_all : (ramped (value_set (new_line (pos 3)) 128 (pos 5) (pos 300)) 128 (pos 9) (pos 200)).events ≡ Set 128 (pos 3) ∷ Ramp 200 (pos 9) ∷ Set 300 (pos 5) ∷ []
ramp_before_all = refl

-- a cancel that takes nothing away still moves the base, where no event stands before or now
cancel_of_nothing : cancelled (record (value_set (new_line one) 128 (pos 5) (pos 300)) { slot = pos 3 }) 128 (pos 301) ≡ record { base = pos 3; slot = pos 3; events = Set 300 (pos 5) ∷ [] }
cancel_of_nothing = refl

-- a curve that runs at the time is cancelled whole
cancel_in_a_curve : (cancelled (value_set with_curve 0 (pos 5) (pos 2)) 0 (pos 20)).events ≡ Set 2 (pos 5) ∷ []
cancel_in_a_curve = refl

-- setting `value` now
value_is_set_now : value_now (new_line one) 128 (pos 5) ≡ record { base = one; slot = pos 5; events = Set 128 (pos 5) ∷ [] }
value_is_set_now = refl

-- from the least value to the greatest
widest_curve : values (curved (new_line (pos 0)) 0 (negsuc 2147483647 ∷ pos 2147483647 ∷ []) (pos 0) (pos 3)) (0 ∷ 1 ∷ 2 ∷ 3 ∷ []) ≡ negsuc 2147483647 ∷ negsuc 715827882 ∷ pos 715827882 ∷ pos 2147483647 ∷ []
unfolding value_at
widest_curve = refl

-- times of 2 ^ 40 frames
late_curve : Timeline
late_curve = curved (new_line one) 0 (pos 0 ∷ one ∷ pos 0 ∷ []) (pos 1099511627776) (pos 1099511627776)

late_curve_values : values late_curve (1099511627775 ∷ 1099511627776 ∷ 1649267441664 ∷ 2199023255551 ∷ 2199023255552 ∷ []) ≡ one ∷ pos 0 ∷ one ∷ pos 0 ∷ pos 0 ∷ []
unfolding late_curve value_at
late_curve_values = refl

late_curve_is_in_the_way : event_refusal 0 (pos 2199023255551) late_curve.events ≡ Some (InCurve 0)
unfolding late_curve event_refusal time_refusal in_curve
late_curve_is_in_the_way = refl
