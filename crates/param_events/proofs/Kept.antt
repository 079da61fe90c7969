-- What holds of the events of a timeline holds after each edit that is not refused.
use Rattle.std.proofs.Common.{ℕ, ℤ, pos, negsuc, ◌≡◌, ◌+◌, ◌≤◌, List, [], ◌∷◌, length, Bool, true, false, not, refl, ◌∙◌, ap, sym, subst, arith, Option, Some, None}
use Rattle.std.specs.Prelude.{nat_lt, unsigned_abs}
use Rattle.std.specs.Option.{option_or}
use Rattle.std.proofs.lemmas.Bool.Decides.{nat_tests}
use Rattle.param_events.specs.declared.events.Event.{Event}
use Rattle.param_events.specs.declared.events.Event.TheVariants.{Set, Ramp, Curve}
use Rattle.param_events.specs.declared.refusals.ParamErr.{ParamErr}
use Rattle.param_events.specs.declared.refusals.ParamErr.TheVariants.{BadDuration, ShortCurve}
use Rattle.param_events.proofs.Moments.{moment_late}
use Rattle.param_events.specs.Edits.{moment, refused_where, is_positive, time_refusal, in_curve, event_refusal, span_refusal, curve_refusal, begun, value_set, value_now, ramped, curved, cancelled, held_from}
use Rattle.param_events.specs.Events.{until, put}
use Rattle.param_events.specs.Timeline.{Timeline, IsTimeline}
use Rattle.param_events.specs.Values.{value_at}
use Rattle.param_events.proofs.Puts.{put_kept, set_may, ramp_may, curve_may, first_ramp_is, first_ramp_kept}
use Rattle.param_events.proofs.Cancels.{stay_kept}
use Rattle.param_events.proofs.Holds.{held_kept}

neither : {A : Type 0} (a b : Option A) → option_or a b ≡ None → (a ≡ None) × (b ≡ None)
neither None b h = (refl, h)
neither (Some x) b h = absurd cc

not_where : (b : Bool) (refusal : ParamErr) → refused_where b refusal ≡ None → b ≡ false
not_where true refusal h = absurd cc
not_where false refusal h = refl

free_moment : (now : ℕ) (time : ℤ) (events : List Event) → event_refusal now time events ≡ None → in_curve (moment now time) events ≡ None
unfolding event_refusal
free_moment now time events fine = (neither (time_refusal time) _ fine).1

pub now_kept : (line : Timeline) (now : ℕ) (value : ℤ) → in_curve now line.events ≡ None → IsTimeline line.events → IsTimeline (value_now line now value).events
now_kept line now value free kept = put_kept line.events (Set now value) kept (set_may line.events now value free)

pub set_kept : (line : Timeline) (now : ℕ) (value time : ℤ) → event_refusal now time line.events ≡ None → IsTimeline line.events → IsTimeline (value_set line now value time).events
set_kept line now value time fine kept =
    put_kept line.events (Set (moment now time) value) kept (set_may line.events (moment now time) value (free_moment now time line.events fine))

pub ramp_kept : (line : Timeline) (now : ℕ) (value time : ℤ) → event_refusal now time line.events ≡ None → IsTimeline line.events → IsTimeline (ramped line now value time).events
ramp_kept line now value time fine kept = by_before (until (moment now time) line.events) refl
  where
    by_before : (before : List Event) → until (moment now time) line.events ≡ before → IsTimeline (put (begun before line.slot now line.events) (Ramp (moment now time) value))
    by_before [] none =
        let later : now ≤ moment now time = moment_late now time in
        subst IsTimeline
        (sym (ap (λ u. put (begun u line.slot now line.events) (Ramp (moment now time) value)) (sym none) ∙ first_ramp_is line.events line.slot value now (moment now time) kept.ordered later none))
        (first_ramp_kept line.events line.slot value now (moment now time) kept.ordered later none)
    by_before (e ∷ es) is =
        put_kept line.events (Ramp (moment now time) value) kept
        (ramp_may line.events (moment now time) value (free_moment now time line.events fine) (λ h. let no : [] ≡ e ∷ es = sym h ∙ is in absurd cc))

lasting : (duration : ℤ) → is_positive duration ≡ true → 1 ≤ unsigned_abs duration
lasting (pos n) h = grind (arith, nat_tests)
lasting (negsuc n) h = absurd cc

not_not : (b : Bool) → not b ≡ false → b ≡ true
not_not true h = refl
not_not false h = absurd cc

pub curve_kept : (line : Timeline) (now : ℕ) (points : List ℤ) (time duration : ℤ) → curve_refusal now points time duration line.events ≡ None → IsTimeline line.events
    → IsTimeline (curved line now points time duration).events
unfolding span_refusal
curve_kept line now points time duration fine kept =
    let long = neither (refused_where (nat_lt (length points) 2) ShortCurve) _ fine in
    let timed = neither (time_refusal time) _ long.1 in
    let lasts = neither (refused_where (not (is_positive duration)) BadDuration) _ timed.1 in
    let free = neither (in_curve (moment now time) line.events) _ lasts.1 in
    let some : 1 ≤ unsigned_abs duration = lasting duration (not_not (is_positive duration) (not_where _ BadDuration lasts.0)) in
    let two : 2 ≤ length points = let short : nat_lt (length points) 2 ≡ false = not_where _ ShortCurve long.0 in grind (arith, nat_tests) in
    put_kept line.events (Curve (moment now time) (unsigned_abs duration) (moment now time + unsigned_abs duration) points) kept
    (curve_may line.events (moment now time) (unsigned_abs duration) points free.0 free.1 some two)

pub cancel_kept : (line : Timeline) (now : ℕ) (time : ℤ) → IsTimeline line.events → IsTimeline (cancelled line now time).events
cancel_kept line now time kept = stay_kept (moment now time) line.events kept

pub hold_kept : (line : Timeline) (now : ℕ) (time : ℤ) → IsTimeline line.events → IsTimeline (held_from line now time).events
hold_kept line now time kept = held_kept line.events (moment now time) (value_at line.base line.events (moment now time)) kept
