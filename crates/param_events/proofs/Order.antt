-- The events before a time and those after it.
use Rattle.std.proofs.Common.{ℕ, pos, zero, suc, ◌≡◌, ◌<◌, ◌≤◌, ◌-◌, List, [], ◌∷◌, length, take, drop, get_or, true, false, cond, refl, ◌∙◌, ap, sym, subst, arith, Option, Some, None, ◌⊎◌, inl, inr}
use Rattle.std.specs.Prelude.{nat_le, nat_lt, slice_get}
use Rattle.std.proofs.lemmas.Bool.Decides.{nat_tests}
use Rattle.param_events.specs.declared.events.Event.{Event}
use Rattle.param_events.specs.declared.events.Event.TheVariants.{Set, Ramp, Curve}
use Rattle.param_events.specs.Events.{time_of, end_of, until, after, last}
use Rattle.param_events.specs.Timeline.{IsSound, IsOrderedFrom}

pub order : (a b : ℕ) → (a ≤ b) ⊎ (b < a)
order a b = grind arith

pub time-end : (e : Event) → IsSound e → time_of e ≤ end_of e
time-end (Set time value) h = omega arith
time-end (Ramp time value) h = omega arith
time-end (Curve time duration end points) h = h.begins

pub until_no : (time : ℕ) (e : Event) (es : List Event) → time < time_of e → until time (e ∷ es) ≡ until time es
until_no time e es l = let t : nat_le (time_of e) time ≡ false = grind (arith, nat_tests) in ap (λ b. cond b (e ∷ until time es) (until time es)) t

pub until_yes : (time : ℕ) (e : Event) (es : List Event) → time_of e ≤ time → until time (e ∷ es) ≡ e ∷ until time es
until_yes time e es l = let t : nat_le (time_of e) time ≡ true = grind (arith, nat_tests) in ap (λ b. cond b (e ∷ until time es) (until time es)) t

pub after_no : (time : ℕ) (e : Event) (es : List Event) → time_of e ≤ time → after time (e ∷ es) ≡ after time es
after_no time e es l = let t : nat_lt time (time_of e) ≡ false = grind (arith, nat_tests) in ap (λ b. cond b (e ∷ after time es) (after time es)) t

pub after_yes : (time : ℕ) (e : Event) (es : List Event) → time < time_of e → after time (e ∷ es) ≡ e ∷ after time es
after_yes time e es l = let t : nat_lt time (time_of e) ≡ true = grind (arith, nat_tests) in ap (λ b. cond b (e ∷ after time es) (after time es)) t

-- later events of an ordered list are not earlier
pub from_low : (low k : ℕ) (es : List Event) (d : Event) → IsOrderedFrom low es → k < length es → low ≤ time_of (get_or es k d)
from_low low k [] d h l = absurd (omega arith)
from_low low zero (e ∷ es) d h l = h.0
from_low low (suc k) (e ∷ es) d h l =
    let first = h.0 in
    let own = time-end e h.1 in
    let rest = from_low (end_of e) k es d h.2 (omega arith) in
    omega (arith, first, own, rest)

pub rising_times : (low i j : ℕ) (es : List Event) (d : Event) → IsOrderedFrom low es → i ≤ j → j < length es → time_of (get_or es i d) ≤ time_of (get_or es j d)
rising_times low i j [] d h l m = absurd (omega arith)
rising_times low zero zero (e ∷ es) d h l m = omega arith
rising_times low zero (suc j) (e ∷ es) d h l m = let own = time-end e h.1 in let rest = from_low (end_of e) j es d h.2 (omega arith) in omega (arith, own, rest)
rising_times low (suc i) zero (e ∷ es) d h l m = absurd (omega arith)
rising_times low (suc i) (suc j) (e ∷ es) d h l m = rising_times (end_of e) i j es d h.2 (omega arith) (omega arith)

-- events that begin after a time are all after it
pub all_after : (time low : ℕ) (es : List Event) → time < low → IsOrderedFrom low es → (until time es ≡ []) × (after time es ≡ es)
all_after time low [] l h = (refl, refl)
all_after time low (e ∷ es) l h =
    let k = time-end e h.1 in
    let first = h.0 in
    let rest = all_after time (end_of e) es (omega arith) h.2 in
    (until_no time e es (omega arith) ∙ rest.0, after_yes time e es (omega arith) ∙ ap (λ xs. e ∷ xs) rest.1)

-- the first i events are those until the time, and the others are after it
pub split_at : (time low i : ℕ) (es : List Event) (d : Event) → IsOrderedFrom low es → i ≤ length es → ((k : ℕ) → k < i → time_of (get_or es k d) ≤ time) → (i < length es → time < time_of (get_or es i d))
    → (until time es ≡ take i es) × (after time es ≡ drop i es)
split_at time low zero [] d h l each next = (refl, refl)
split_at time low (suc i) [] d h l each next = absurd (omega arith)
split_at time low zero (e ∷ es) d h l each next =
    let t : time < time_of e = next (omega arith) in
    let k = time-end e h.1 in
    let rest = all_after time (end_of e) es (omega arith) h.2 in
    (until_no time e es t ∙ rest.0, after_yes time e es t ∙ ap (λ xs. e ∷ xs) rest.1)
split_at time low (suc i) (e ∷ es) d h l each next =
    let rest = split_at time (end_of e) i es d h.2 (omega arith) (λ k m. each (suc k) (omega arith)) (λ m. next (omega arith)) in
    (until_yes time e es (each 0 (omega arith)) ∙ ap (λ xs. e ∷ xs) rest.0, after_no time e es (each 0 (omega arith)) ∙ rest.1)

abbrev pub IsUntil : ℕ → List Event → Type 0
IsUntil at [] = Unit {0}
IsUntil at (e ∷ es) = (time_of e ≤ at) × IsUntil at es

pub until_until : (at : ℕ) (es : List Event) → IsUntil at (until at es)
until_until at [] = tt
until_until at (e ∷ es) = elim (order (time_of e) at) [
  | inl k ↦ subst (IsUntil at) (sym (until_yes at e es k)) (k, until_until at es)
  | inr k ↦ subst (IsUntil at) (sym (until_no at e es k)) (until_until at es)
]

pub until_ordered : (low at : ℕ) (es : List Event) → IsOrderedFrom low es → IsOrderedFrom low (until at es)
until_ordered low at [] h = tt
until_ordered low at (e ∷ es) h = elim (order (time_of e) at) [
  | inl k ↦ subst (IsOrderedFrom low) (sym (until_yes at e es k)) (h.0, h.1, until_ordered (end_of e) at es h.2)
  | inr k ↦ subst (IsOrderedFrom low) (sym (all_after at (time_of e) (e ∷ es) k (omega arith, h.1, h.2)).0) tt
]

-- the last event, found step by step
abbrev pub last_event : List Event → Option Event
last_event [] = None
last_event (e ∷ []) = Some e
last_event (e ∷ d ∷ es) = last_event (d ∷ es)

pub last_is : (es : List Event) → last es ≡ last_event es
last_is [] = refl
last_is (e ∷ []) = refl
last_is (e ∷ d ∷ es) = let k : length (e ∷ d ∷ es) - 1 ≡ suc (length (d ∷ es) - 1) = omega arith in ap (λ i. slice_get (e ∷ d ∷ es) i) k ∙ last_is (d ∷ es)

last_at : (k : ℕ) (es : List Event) (d : Event) → k < length es → last_event (take (suc k) es) ≡ Some (get_or es k d)
last_at k [] d l = absurd (omega arith)
last_at zero (e ∷ es) d l = refl
last_at (suc k) (e ∷ []) d l = absurd (omega arith)
last_at (suc k) (e ∷ f ∷ es) d l = last_at k (f ∷ es) d (omega arith)

pub last_taken : (i : ℕ) (es : List Event) (d : Event) → 0 < i → i ≤ length es → last (take i es) ≡ Some (get_or es (i - 1) d)
last_taken zero es d some l = absurd (omega arith)
last_taken (suc k) es d some l =
    let e : k ≡ suc k - 1 = omega arith in
    last_is (take (suc k) es) ∙ subst (λ j. last_event (take (suc k) es) ≡ Some (get_or es j d)) e (last_at k es d (omega arith))

-- the events up to a time that lies between two neighbours
pub parted : (f place : ℕ) (es : List Event) → IsOrderedFrom 0 es → place ≤ length es → ((d : Event) → 0 < place → time_of (get_or es (place - 1) d) ≤ f) → ((d : Event) → place < length es → f < time_of (get_or es place d))
    → (until f es ≡ take place es) × (after f es ≡ drop place es)
parted f place es h within before behind =
    let d = Set 0 (pos 0) in
    split_at f 0 place es d h within
    (λ k l. let up = rising_times 0 k (place - 1) es d h (omega arith) (omega arith) in let top = before d (omega arith) in omega (arith, up, top))
    (behind d)
