-- Neighbours in a list of events, and the values between them.
use Rattle.std.proofs.Common.{ℕ, ℤ, pos, zero, suc, ◌≡◌, ◌+◌, ◌-◌, ◌<◌, ◌≤◌, List, [], ◌∷◌, length, get_or, take, ap, sym, ◌∙◌, refl, arith, Option, Some, None, true, cond, rules, unwrap_or, add-one}
use Rattle.std.specs.Prelude.{nat_lt, slice_get, IfSome}
use Rattle.std.specs.Option.{IsSomeAnd}
use Rattle.std.proofs.lemmas.Bool.Decides.{nat_tests}
use Rattle.param_events.specs.declared.events.Event.{Event}
use Rattle.param_events.specs.declared.events.Event.TheVariants.{Set, Curve}
use Rattle.param_events.specs.Events.{time_of, last}
use Rattle.param_events.specs.Timeline.{IsTimeline}
use Rattle.param_events.specs.Values.{between, curve_value, towards, value_at}
use Rattle.param_events.proofs.Finds.{found, found_base}
use Rattle.param_events.proofs.Order.{parted, last_taken, last_event, last_is}

pub curve_runs : (base : ℤ) (time duration end : ℕ) (points : List ℤ) (next : Option Event) (f : ℕ) → f < end
    → between base (Some (Curve time duration end points)) next f ≡ curve_value points duration (f - time)
curve_runs base time duration end points next f l =
    let t : nat_lt f end ≡ true = grind (arith, nat_tests) in
    ap (λ b. cond b (curve_value points duration (f - time)) (towards (curve_value points duration (end - time)) end next f)) t

some_is : (a b : Event) → Some a ≡ Some b → a ≡ b
some_is a b h = ap (λ o. unwrap_or o a) h

pub last_before : (place : ℕ) (es : List Event) (e : Event) → place ≤ length es → last (take place es) ≡ Some e → (0 < place) × ((d : Event) → get_or es (place - 1) d ≡ e)
last_before zero es e l h = absurd (search rules)
last_before (suc k) es e l h = (omega arith, λ d. some_is _ _ (sym (last_taken (suc k) es d (omega arith) l) ∙ h))

pub none_before : (place : ℕ) (es : List Event) → place ≤ length es → last (take place es) ≡ None → place ≡ 0
none_before zero es l h = refl
none_before (suc k) es l h = let e = sym (last_taken (suc k) es (Set 0 (pos 0)) (omega arith) l) ∙ h in absurd (search rules)

pub if_there : (place : ℕ) (es : List Event) (P : Event → Type 0) → ((d : Event) → place < length es → P (get_or es place d)) → IfSome (slice_get es place) P
if_there place [] P h = tt
if_there zero (e ∷ es) P h = h e (omega arith)
if_there (suc k) (e ∷ es) P h = if_there k es P (λ d l. h d (omega arith))

pub between_is : (base : ℤ) (es : List Event) (place at end first m : ℕ) (e : Event) (ahead : Option Event) → IsTimeline es → last (take place es) ≡ Some e → ahead ≡ slice_get es place → place ≤ length es
    → ((d : Event) → 0 < place → time_of (get_or es (place - 1) d) ≤ first + at) → ((d : Event) → place < length es → first + end ≤ time_of (get_or es place d))
    → at ≤ m → m < end → between base (Some e) ahead (first + m) ≡ value_at base es (first + m)
between_is base es place at end first m e ahead kept here next within begun later low high =
    let last = last_before place es e within here in
    let parts = parted (first + m) place es kept.ordered within (λ d l. let b = begun d l in omega (arith, b)) (λ d l. let b = later d l in omega (arith, b)) in
    ap (λ x. between base (Some x) ahead (first + m)) (sym (last.1 e)) ∙ ap (λ o. between base (Some (get_or es (place - 1) e)) o (first + m)) next ∙ sym (found base es (first + m) place e last.0 within parts.0 parts.1)

pub base_is : (base : ℤ) (es : List Event) (place end first m : ℕ) → IsTimeline es → last (take place es) ≡ None → place ≤ length es
    → ((d : Event) → place < length es → first + end ≤ time_of (get_or es place d)) → m < end → base ≡ value_at base es (first + m)
base_is base es place end first m kept here within later high =
    let none = none_before place es within here in
    let parts = parted (first + m) place es kept.ordered within (λ d l. absurd (omega (arith, none, l))) (λ d l. let b = later d l in omega (arith, b)) in
    sym (found_base base es (first + m) (parts.0 ∙ ap (λ i. take i es) none))

pub at_place : (place : ℕ) (es : List Event) (P : Event → Type 0) → IfSome (slice_get es place) P → (d : Event) → place < length es → P (get_or es place d)
at_place place [] P h d l = absurd (omega arith)
at_place zero (e ∷ es) P h d l = h
at_place (suc k) (e ∷ es) P h d l = at_place k es P h d (omega arith)

pub at_some : (place : ℕ) (es : List Event) (P : Event → Type 0) → IsSomeAnd (slice_get es place) P → (place < length es) × ((d : Event) → P (get_or es place d))
at_some place [] P h = absurd h
at_some zero (e ∷ es) P h = (omega arith, λ d. h)
at_some (suc k) (e ∷ es) P h = let r = at_some k es P h in (omega (arith, r.0), r.1)

next_is : (place : ℕ) (es : List Event) → place < length es → slice_get es place ≡ last_event (take (suc place) es)
next_is place [] l = absurd (omega arith)
next_is zero (e ∷ es) l = refl
next_is (suc k) (e ∷ []) l = absurd (omega arith)
next_is (suc k) (e ∷ f ∷ es) l = next_is k (f ∷ es) (omega arith)

pub last_next : (place : ℕ) (es : List Event) → place < length es → slice_get es place ≡ last (take (place + 1) es)
last_next place es l = next_is place es l ∙ sym (last_is (take (suc place) es)) ∙ ap (λ i. last (take i es)) (sym (add-one place))
