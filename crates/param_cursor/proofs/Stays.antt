-- Where a value stays.
use Rattle.std.proofs.Common.{ℕ, ℤ, pos, ◌≡◌, ◌-◌, ◌<◌, ◌≤◌, List, zero, suc, length, get_or, take, ap, sym, subst, ◌∙◌, refl, arith, Option, Some, None, false, rules}
use Rattle.std.specs.Prelude.{slice_get, IfSome}
use Rattle.param_events.specs.declared.events.Event.{Event}
use Rattle.param_events.specs.declared.events.Event.TheVariants.{Set, Ramp, Curve}
use Rattle.param_events.specs.Edits.{is_ramp}
use Rattle.param_events.specs.Events.{time_of, after, first, last}
use Rattle.param_events.specs.Timeline.{IsSound, IsOrderedFrom, IsTimeline}
use Rattle.param_events.specs.Values.{between, towards, curve_value, value_at}
use Rattle.param_events.proofs.Finds.{curve_held, get_first, sound_at}
use Rattle.param_events.proofs.Order.{parted, last_taken}
use Rattle.param_cursor.proofs.Counting.{StandsAt}

-- where no ramp comes next, a value is held
pub not_towards : (value : ℤ) (from : ℕ) (next : Option Event) (frame : ℕ) → is_ramp next ≡ false → towards value from next frame ≡ value
not_towards value from None frame h = refl
not_towards value from (Some (Set time v)) frame h = refl
not_towards value from (Some (Ramp time v)) frame h = absurd (search rules)
not_towards value from (Some (Curve time duration end points)) frame h = refl

-- behind a curve it is the curve's last
pub curve_left : (base : ℤ) (time duration end : ℕ) (points : List ℤ) (next : Option Event) (frame : ℕ) → is_ramp next ≡ false → end ≤ frame
    → between base (Some (Curve time duration end points)) next frame ≡ curve_value points duration (end - time)
curve_left base time duration end points next frame still l = curve_held base time duration end points next frame l ∙ not_towards (curve_value points duration (end - time)) end next frame still

-- the value at a frame that lies between the events beside a place
pub between_at : (base : ℤ) (es : List Event) (place from frame : ℕ) → IsTimeline es → StandsAt place es from → from ≤ frame → ((d : Event) → place < length es → frame < time_of (get_or es place d))
    → value_at base es frame ≡ between base (last (take place es)) (slice_get es place) frame
unfolding value_at
between_at base es place from frame line stands l later =
    let parts = parted frame place es line.ordered stands.within (λ d some. let b = stands.before d some in omega (arith, b)) later in
    ap (λ xs. between base (last xs) (first (after frame es)) frame) parts.0 ∙ ap (λ xs. between base (last (take place es)) (first xs) frame) parts.1
    ∙ ap (λ o. between base (last (take place es)) o frame) (sym (get_first place es))

-- a cursor stands at every frame up to the next event
pub stands_on : (es : List Event) (place from frame : ℕ) → StandsAt place es from → from ≤ frame → ((d : Event) → place < length es → frame ≤ time_of (get_or es place d)) → StandsAt place es frame
stands_on es place from frame stands l later = record { within = stands.within; before = λ d some. let b = stands.before d some in omega (arith, b); behind = later }

pub last_sound : (place : ℕ) (es : List Event) → IsOrderedFrom 0 es → place ≤ length es → IfSome (last (take place es)) IsSound
last_sound zero es h l = tt
last_sound (suc k) es h l =
    let d = Set 0 (pos 0) in
    subst (λ o. IfSome o IsSound) (sym (last_taken (suc k) es d (omega arith) l)) (sound_at 0 (suc k - 1) es d h (omega arith))

-- the event before a cursor has begun
pub last_begun : (place frame : ℕ) (es : List Event) → StandsAt place es frame → IfSome (last (take place es)) (λ event. time_of event ≤ frame)
last_begun zero frame es stands = tt
last_begun (suc k) frame es stands =
    let d = Set 0 (pos 0) in
    let before = stands.before d (omega arith) in
    let begun : time_of (get_or es (suc k - 1) d) ≤ frame = omega (arith, before) in
    subst (λ o. IfSome o (λ event. time_of event ≤ frame)) (sym (last_taken (suc k) es d (omega arith) stands.within)) begun
