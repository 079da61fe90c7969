-- The value at a frame, by the events round it.
use Rattle.std.proofs.Common.{ℕ, ℤ, zero, suc, ◌≡◌, ◌<◌, ◌≤◌, ◌-◌, List, [], ◌∷◌, length, take, drop, get_or, false, cond, refl, ◌∙◌, ap, sym, subst, arith, Option, Some, inl, inr}
use Rattle.std.specs.Prelude.{nat_lt, slice_get, IfSome}
use Rattle.std.proofs.lemmas.Bool.Decides.{nat_tests}
use Rattle.param_events.specs.declared.events.Event.{Event}
use Rattle.param_events.specs.declared.events.Event.TheVariants.{Curve}
use Rattle.param_events.specs.Events.{time_of, end_of, until, after, first, last}
use Rattle.param_events.specs.Timeline.{IsSound, IsOrderedFrom}
use Rattle.param_events.specs.Values.{value_at, between, towards, curve_value}
use Rattle.param_events.proofs.Order.{order, after_yes, after_no, IsUntil, until_until, last_taken}

-- from a curve's end on, its last value is where the way to the next event begins
pub curve_held : (base : ℤ) (time duration end : ℕ) (points : List ℤ) (next : Option Event) (f : ℕ) → end ≤ f
    → between base (Some (Curve time duration end points)) next f ≡ towards (curve_value points duration (end - time)) end next f
curve_held base time duration end points next f l =
    let t : nat_lt f end ≡ false = grind (arith, nat_tests) in
    ap (λ b. cond b (curve_value points duration (f - time)) (towards (curve_value points duration (end - time)) end next f)) t

pub sound_at : (low k : ℕ) (es : List Event) (d : Event) → IsOrderedFrom low es → k < length es → IsSound (get_or es k d)
sound_at low k [] d h l = absurd (omega arith)
sound_at low zero (e ∷ es) d h l = h.1
sound_at low (suc k) (e ∷ es) d h l = sound_at (end_of e) k es d h.2 (omega arith)

until_at : (f k : ℕ) (es : List Event) (d : Event) → IsUntil f es → k < length es → time_of (get_or es k d) ≤ f
until_at f k [] d h l = absurd (omega arith)
until_at f zero (e ∷ es) d h l = h.0
until_at f (suc k) (e ∷ es) d h l = until_at f k es d h.1 (omega arith)

taken_at : (i k : ℕ) (es : List Event) (d : Event) → k < i → i ≤ length es → time_of (get_or (take i es) k d) ≡ time_of (get_or es k d)
taken_at zero k es d l m = absurd (omega arith)
taken_at (suc i) k [] d l m = absurd (omega arith)
taken_at (suc i) zero (e ∷ es) d l m = refl
taken_at (suc i) (suc k) (e ∷ es) d l m = taken_at i k es d (omega arith) (omega arith)

pub take_long : (i : ℕ) (es : List Event) → i ≤ length es → length (take i es) ≡ i
take_long zero es l = refl
take_long (suc i) [] l = absurd (omega arith)
take_long (suc i) (e ∷ es) l = let h = take_long i es (omega arith) in omega (arith, h)

-- an event among the first i, where these are those until f
pub begun_at : (f i k : ℕ) (es : List Event) (d : Event) → until f es ≡ take i es → k < i → i ≤ length es → time_of (get_or es k d) ≤ f
begun_at f i k es d e l m =
    let long = take_long i es m in
    let h = until_at f k (take i es) d (subst (IsUntil f) e (until_until f es)) (omega (arith, long)) in
    omega (arith, h, taken_at i k es d l m)

after_strict : (f : ℕ) (es : List Event) → IfSome (first (after f es)) (λ e. f < time_of e)
after_strict f [] = tt
after_strict f (d ∷ ds) = elim (order (time_of d) f) [
  | inl k ↦ subst (λ xs. IfSome (first xs) (λ e. f < time_of e)) (sym (after_no f d ds k)) (after_strict f ds)
  | inr k ↦ subst (λ xs. IfSome (first xs) (λ e. f < time_of e)) (sym (after_yes f d ds k)) k
]

pub get_first : (i : ℕ) (es : List Event) → slice_get es i ≡ first (drop i es)
get_first zero [] = refl
get_first zero (e ∷ es) = refl
get_first (suc i) [] = refl
get_first (suc i) (e ∷ es) = get_first i es

pub later_at : (f i : ℕ) (es : List Event) → after f es ≡ drop i es → IfSome (slice_get es i) (λ e. f < time_of e)
later_at f i es e = subst (λ o. IfSome o (λ x. f < time_of x)) (sym (get_first i es)) (subst (λ xs. IfSome (first xs) (λ x. f < time_of x)) e (after_strict f es))

pub found_base : (base : ℤ) (es : List Event) (f : ℕ) → until f es ≡ take 0 es → value_at base es f ≡ base
unfolding value_at
found_base base es f u = ap (λ xs. between base (last xs) (first (after f es)) f) u

pub found : (base : ℤ) (es : List Event) (f i : ℕ) (d : Event) → 0 < i → i ≤ length es → until f es ≡ take i es → after f es ≡ drop i es
    → value_at base es f ≡ between base (Some (get_or es (i - 1) d)) (slice_get es i) f
unfolding value_at
found base es f i d some l u a =
    ap (λ xs. between base (last xs) (first (after f es)) f) u ∙ ap (λ xs. between base (last (take i es)) (first xs) f) a
    ∙ ap (λ o. between base o (first (drop i es)) f) (last_taken i es d some l) ∙ ap (λ o. between base (Some (get_or es (i - 1) d)) o f) (sym (get_first i es))
