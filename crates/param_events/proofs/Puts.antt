-- An event that is put among others.
use Rattle.std.proofs.Common.{ℕ, ℤ, ◌≡◌, ◌+◌, ◌<◌, ◌≤◌, List, [], ◌∷◌, ◌++◌, length, true, false, cond, refl, ◌∙◌, ap, sym, subst, arith, Bool, Option, Some, None, inl, inr, rules}
use Rattle.std.specs.Prelude.{option_map}
use Rattle.std.specs.List.{position_from, position}
use Rattle.std.proofs.lemmas.Bool.Decides.{nat_tests}
use Rattle.std.proofs.lemmas.Iterator.Adapters.{position_from-zero}
use Rattle.param_events.specs.declared.events.Event.{Event}
use Rattle.param_events.specs.declared.events.Event.TheVariants.{Set, Ramp, Curve}
use Rattle.param_events.specs.declared.refusals.ParamErr.{ParamErr}
use Rattle.param_events.specs.declared.refusals.ParamErr.TheVariants.{InCurve, CurveOver}
use Rattle.param_events.specs.Edits.{runs_at, lies_between, in_curve, curve_over, begun}
use Rattle.param_events.specs.Events.{time_of, end_of, until, after, put}
use Rattle.param_events.specs.Places.{IsFirstFrom, MayStand}
use Rattle.param_events.specs.Timeline.{IsSound, IsNoRamp, IsBegun, IsOrderedFrom, IsTimeline}
use Rattle.param_events.proofs.Order.{order, time-end, until_yes, after_no, after_yes, all_after}

none_by : (b : Bool) (i : ℕ) (rest : Option ℕ) → cond b (Some i) rest ≡ None → (b ≡ false) × (rest ≡ None)
none_by true i rest h = absurd (search rules)
none_by false i rest h = (refl, h)

none_here : (test : Event → Bool) (e : Event) (es : List Event) (i : ℕ) → position_from test i (e ∷ es) ≡ None → (test e ≡ false) × (position_from test (i + 1) es ≡ None)
none_here test e es i h = none_by (test e) i (position_from test (i + 1) es) h

-- An event put among others.

not_running : (time : ℕ) (e : Event) → time_of e ≤ time → runs_at time e ≡ false → end_of e ≤ time
not_running time (Set t value) l h = l
not_running time (Ramp t value) l h = l
not_running time (Curve t duration end points) l h = grind (arith, nat_tests)

pub put_before : (low : ℕ) (d : Event) (ds : List Event) (e : Event) → time_of e < time_of d → IsOrderedFrom low (d ∷ ds) → put (d ∷ ds) e ≡ e ∷ d ∷ ds
put_before low d ds e l h =
    let k = time-end d h.1 in
    let rest = all_after (time_of e) (time_of d) (d ∷ ds) l (omega arith, h.1, h.2) in
    ap (λ xs. xs ++ e ∷ after (time_of e) (d ∷ ds)) rest.0 ∙ ap (λ xs. e ∷ xs) rest.1

pub put_behind : (d : Event) (ds : List Event) (e : Event) → time_of d ≤ time_of e → put (d ∷ ds) e ≡ d ∷ put ds e
put_behind d ds e l = ap (λ xs. xs ++ e ∷ after (time_of e) (d ∷ ds)) (until_yes (time_of e) d ds l) ∙ ap (λ xs. d ∷ until (time_of e) ds ++ e ∷ xs) (after_no (time_of e) d ds l)

pub put_ordered : (low : ℕ) (events : List Event) (e : Event) (i : ℕ) → IsOrderedFrom low events → low ≤ time_of e → IsSound e → position_from (runs_at (time_of e)) i events ≡ None
    → IsFirstFrom (end_of e) (after (time_of e) events) → IsOrderedFrom low (put events e)
put_ordered low [] e i h l s none past = (l, s, tt)
put_ordered low (d ∷ ds) e i h l s none past = elim (order (time_of d) (time_of e)) [
  | inl k ↦
      let here = none_here (runs_at (time_of e)) d ds i none in
      subst (IsOrderedFrom low) (sym (put_behind d ds e k))
      (h.0, h.1, put_ordered (end_of d) ds e (i + 1) h.2 (not_running (time_of e) d k here.0) s here.1 (subst (IsFirstFrom (end_of e)) (after_no (time_of e) d ds k) past))
  | inr k ↦
      subst (IsOrderedFrom low) (sym (put_before low d ds e k h))
      (l, s, (subst (IsFirstFrom (end_of e)) (after_yes (time_of e) d ds k) past, h.1, h.2))
]

pub put_begun : (low : ℕ) (events : List Event) (e : Event) → IsOrderedFrom low events → IsBegun events → (until (time_of e) events ≡ [] → IsNoRamp e) → IsBegun (put events e)
put_begun low [] e h b none = none refl
put_begun low (d ∷ ds) e h b none = elim (order (time_of d) (time_of e)) [
  | inl k ↦ subst IsBegun (sym (put_behind d ds e k)) b
  | inr k ↦ subst IsBegun (sym (put_before low d ds e k h)) (none (all_after (time_of e) (time_of d) (d ∷ ds) k (omega arith, h.1, h.2)).0)
]

-- what is after a time begins past it
pub after_first : (time : ℕ) (events : List Event) → IsFirstFrom time (after time events)
after_first time [] = tt
after_first time (d ∷ ds) = elim (order (time_of d) time) [
  | inl k ↦ subst (IsFirstFrom time) (sym (after_no time d ds k)) (after_first time ds)
  | inr k ↦ subst (IsFirstFrom time) (sym (after_yes time d ds k)) (omega arith)
]

not_within : (start finish : ℕ) (e : Event) → start < time_of e → lies_between start finish e ≡ false → finish ≤ time_of e
not_within start finish e l h = grind (arith, nat_tests)

pub after_clear : (start finish : ℕ) (events : List Event) (i : ℕ) → position_from (lies_between start finish) i events ≡ None → IsFirstFrom finish (after start events)
after_clear start finish [] i none = tt
after_clear start finish (d ∷ ds) i none =
    let here = none_here (lies_between start finish) d ds i none in
    elim (order (time_of d) start) [
      | inl k ↦ subst (IsFirstFrom finish) (sym (after_no start d ds k)) (after_clear start finish ds (i + 1) here.1)
      | inr k ↦ subst (IsFirstFrom finish) (sym (after_yes start d ds k)) (not_within start finish d k here.0)
    ]

no_place : (fault : ℕ → ParamErr) (b : Option ℕ) → option_map fault b ≡ None → b ≡ None
no_place fault None h = refl
no_place fault (Some i) h = absurd (search rules)

none_from : (test : Event → Bool) (es : List Event) (fault : ℕ → ParamErr) → option_map fault (position test es) ≡ None → position_from test 0 es ≡ None
none_from test es fault h = sym (position_from-zero test es) ∙ no_place fault (position test es) h

free_of : (time : ℕ) (events : List Event) → in_curve time events ≡ None → position_from (runs_at time) 0 events ≡ None
unfolding in_curve
free_of time events h = none_from (runs_at time) events InCurve h

clear_of : (start finish : ℕ) (events : List Event) → curve_over start finish events ≡ None → position_from (lies_between start finish) 0 events ≡ None
unfolding curve_over
clear_of start finish events h = none_from (lies_between start finish) events CurveOver h

-- an event that may stand among others keeps the timeline
pub put_kept : (events : List Event) (e : Event) → IsTimeline events → MayStand events e → IsTimeline (put events e)
put_kept events e kept may = record {
  begun = put_begun 0 events e kept.ordered kept.begun may.begins;
  ordered = put_ordered 0 events e 0 kept.ordered (omega arith) may.sound (free_of (time_of e) events may.outside) may.past;
}

pub set_may : (events : List Event) (time : ℕ) (value : ℤ) → in_curve time events ≡ None → MayStand events (Set time value)
set_may events time value free = record { sound = tt; outside = free; begins = λ h. tt; past = after_first time events }

pub ramp_may : (events : List Event) (time : ℕ) (value : ℤ) → in_curve time events ≡ None → (until time events ≡ [] → ⊥) → MayStand events (Ramp time value)
ramp_may events time value free some = record { sound = tt; outside = free; begins = some; past = after_first time events }

pub curve_may : (events : List Event) (time duration : ℕ) (points : List ℤ) → in_curve time events ≡ None → curve_over time (time + duration) events ≡ None → 1 ≤ duration → 2 ≤ length points
    → MayStand events (Curve time duration (time + duration) points)
curve_may events time duration points free clear some two = record {
  sound = record { begins = omega arith; ends = omega arith; lasts = some; has_points = two };
  outside = free;
  begins = λ h. tt;
  past = after_clear time (time + duration) events 0 (clear_of time (time + duration) events clear);
}

-- A ramp before which nothing stands.

none_until : (time : ℕ) (d : Event) (ds : List Event) → until time (d ∷ ds) ≡ [] → time < time_of d
none_until time d ds h = elim (order (time_of d) time) [
  | inl k ↦ let e : d ∷ until time ds ≡ [] = sym (until_yes time d ds k) ∙ h in absurd (search rules)
  | inr k ↦ k
]

pub put_alone : (events : List Event) (e : Event) (time : ℕ) → IsOrderedFrom 0 events → time_of e ≤ time → until time events ≡ [] → put events e ≡ e ∷ events
put_alone [] e time h l none = refl
put_alone (d ∷ ds) e time h l none = let k = none_until time d ds none in put_before 0 d ds e (omega arith) h

pub first_ramp_is : (events : List Event) (slot value : ℤ) (now time : ℕ) → IsOrderedFrom 0 events → now ≤ time → until time events ≡ []
    → put (begun (until time events) slot now events) (Ramp time value) ≡ Set now slot ∷ Ramp time value ∷ events
first_ramp_is events slot value now time h l none =
    ap (λ u. put (begun u slot now events) (Ramp time value)) none
    ∙ ap (λ xs. put xs (Ramp time value)) (put_alone events (Set now slot) time h l none)
    ∙ put_behind (Set now slot) events (Ramp time value) l
    ∙ ap (λ xs. Set now slot ∷ xs) (put_alone events (Ramp time value) time h (omega arith) none)

from_later : (time : ℕ) (events : List Event) → IsOrderedFrom 0 events → until time events ≡ [] → IsOrderedFrom time events
from_later time [] h none = tt
from_later time (d ∷ ds) h none = let k = none_until time d ds none in (omega arith, h.1, h.2)

pub first_ramp_kept : (events : List Event) (slot value : ℤ) (now time : ℕ) → IsOrderedFrom 0 events → now ≤ time → until time events ≡ [] → IsTimeline (Set now slot ∷ Ramp time value ∷ events)
first_ramp_kept events slot value now time h l none = record { begun = tt; ordered = (omega arith, tt, (l, tt, from_later time events h none)) }
