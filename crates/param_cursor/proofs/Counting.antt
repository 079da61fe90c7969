-- The place at which a cursor stands, by the events beside it.
use Rattle.std.proofs.Common.{ℕ, zero, suc, ◌≡◌, ◌+◌, ◌-◌, ◌<◌, ◌≤◌, List, [], ◌∷◌, length, get_or, true, false, cond, Bool, refl, ap, sym, subst, ◌∙◌, arith, inl, inr}
use Rattle.std.specs.Prelude.{nat_le, nat_lt, ◌&&◌}
use Rattle.std.specs.List.{filter}
use Rattle.std.proofs.lemmas.Bool.Decides.{nat_tests}
use Rattle.param_events.specs.declared.events.Event.{Event}
use Rattle.param_events.specs.Events.{time_of, end_of}
use Rattle.param_events.specs.Timeline.{IsOrderedFrom}
use Rattle.param_events.proofs.Order.{order, time-end}
use Rattle.param_events.proofs.Order.{rising_times}
use Rattle.param_cursor.specs.Cursors.{place_at, within}

-- the event before the place has a time before the frame, and the one at the place has not
pub record StandsAt (place : ℕ) (events : List Event) (frame : ℕ) : Type 0 where
  pub within : place ≤ length events
  pub before : (default : Event) → 0 < place → time_of (get_or events (place - 1) default) < frame
  pub behind : (default : Event) → place < length events → frame ≤ time_of (get_or events place default)

early_yes : (f : ℕ) (e : Event) (es : List Event) → time_of e < f → place_at f (e ∷ es) ≡ suc (place_at f es)
early_yes f e es l = let t : nat_lt (time_of e) f ≡ true = grind (arith, nat_tests) in ap (λ b. length (cond b (e ∷ filter (λ d. nat_lt (time_of d) f) es) (filter (λ d. nat_lt (time_of d) f) es))) t

early_no : (f : ℕ) (e : Event) (es : List Event) → f ≤ time_of e → place_at f (e ∷ es) ≡ place_at f es
early_no f e es l = let t : nat_lt (time_of e) f ≡ false = grind (arith, nat_tests) in ap (λ b. length (cond b (e ∷ filter (λ d. nat_lt (time_of d) f) es) (filter (λ d. nat_lt (time_of d) f) es))) t

none_early : (f low : ℕ) (es : List Event) → f ≤ low → IsOrderedFrom low es → place_at f es ≡ 0
none_early f low [] l h = refl
none_early f low (e ∷ es) l h = let a = h.0 in let b = time-end e h.1 in early_no f e es (omega arith) ∙ none_early f (end_of e) es (omega arith) h.2

pub place_within : (f : ℕ) (es : List Event) → place_at f es ≤ length es
place_within f [] = omega arith
place_within f (e ∷ es) = let rest = place_within f es in elim (order f (time_of e)) [
  | inl later ↦ let same = early_no f e es later in omega (arith, same, rest)
  | inr earlier ↦ let more = early_yes f e es earlier in omega (arith, more, rest)
]

-- ---- of events in order it is the place between those before the frame and the others

count_is : (f low p : ℕ) (es : List Event) → IsOrderedFrom low es → p ≤ length es → ((k : ℕ) (d : Event) → k < p → time_of (get_or es k d) < f) → ((d : Event) → p < length es → f ≤ time_of (get_or es p d))
    → place_at f es ≡ p
count_is f low zero [] h l before behind = refl
count_is f low (suc p) [] h l before behind = absurd (omega arith)
count_is f low zero (e ∷ es) h l before behind = let b = time-end e h.1 in let c = behind e (omega arith) in early_no f e es c ∙ none_early f (end_of e) es (omega arith) h.2
count_is f low (suc p) (e ∷ es) h l before behind =
    early_yes f e es (before 0 e (omega arith)) ∙ ap suc (count_is f (end_of e) p es h.2 (omega arith) (λ k d m. before (suc k) d (omega arith)) (λ d m. behind d (omega arith)))

pub place_is : (f p : ℕ) (es : List Event) → IsOrderedFrom 0 es → StandsAt p es f → p ≡ place_at f es
place_is f p es h s =
    sym (count_is f 0 p es h s.within
    (λ k d m. let w = s.within in let up = rising_times 0 k (p - 1) es d h (omega arith) (omega arith) in let top = s.before d (omega arith) in omega (arith, up, top))
    s.behind)

stands_next : (f p : ℕ) (e : Event) (es : List Event) → time_of e < f → StandsAt p es f → StandsAt (suc p) (e ∷ es) f
stands_next f zero e es l s = record { within = omega arith; before = λ d some. l; behind = λ d m. s.behind d (omega arith) }
stands_next f (suc k) e es l s = record {
  within = let w = s.within in omega (arith, w);
  before = λ d some.
      let here : time_of (get_or (e ∷ es) (suc (suc k) - 1) d) ≡ time_of (get_or es k d) = ap (λ i. time_of (get_or (e ∷ es) i d)) (let i : suc (suc k) - 1 ≡ suc k = omega arith in i) in
      let there : time_of (get_or es (suc k - 1) d) ≡ time_of (get_or es k d) = ap (λ i. time_of (get_or es i d)) (let i : suc k - 1 ≡ k = omega arith in i) in
      let b = s.before d (omega arith) in
      omega (arith, here, there, b);
  behind = λ d m. s.behind d (omega arith);
}

stands_from : (f low : ℕ) (es : List Event) → IsOrderedFrom low es → StandsAt (place_at f es) es f
stands_from f low [] h = record { within = omega arith; before = λ d some. absurd (omega arith); behind = λ d m. absurd (omega arith) }
stands_from f low (e ∷ es) h = elim (order f (time_of e)) [
  | inl later ↦
      let none : place_at f (e ∷ es) ≡ 0 = early_no f e es later ∙ none_early f (end_of e) es (let b = time-end e h.1 in omega arith) h.2 in
      subst (λ p. StandsAt p (e ∷ es) f) (sym none) (record { within = omega arith; before = λ d some. absurd (omega arith); behind = λ d m. later })
  | inr earlier ↦ subst (λ p. StandsAt p (e ∷ es) f) (sym (early_yes f e es earlier)) (stands_next f (place_at f es) e es earlier (stands_from f (end_of e) es h.2))
]

pub stands_at : (f p : ℕ) (es : List Event) → IsOrderedFrom 0 es → p ≡ place_at f es → StandsAt p es f
stands_at f p es h is = subst (λ q. StandsAt q es f) (sym is) (stands_from f 0 es h)

-- ---- how many events stand between two places

within_by : (from to : ℕ) (e : Event) (es : List Event) (b : Bool) → (nat_le from (time_of e) && nat_lt (time_of e) to) ≡ b → length (within from to (e ∷ es)) ≡ length (cond b (e ∷ within from to es) (within from to es))
within_by from to e es b h = ap (λ t. length (cond t (e ∷ within from to es) (within from to es))) h

pub moved_by : (from to : ℕ) (es : List Event) → from ≤ to → length (within from to es) + place_at from es ≡ place_at to es
moved_by from to [] l = refl
moved_by from to (e ∷ es) l =
    let rest = moved_by from to es l in
    elim (order from (time_of e)) [
      | inr first ↦
          let t : (nat_le from (time_of e) && nat_lt (time_of e) to) ≡ false = grind (arith, nat_tests) in
          let a = within_by from to e es false t in
          let b = early_yes from e es first in
          let c = early_yes to e es (omega arith) in
          omega (arith, a, b, c, rest)
      | inl later ↦ elim (order to (time_of e)) [
        | inl past ↦
            let t : (nat_le from (time_of e) && nat_lt (time_of e) to) ≡ false = grind (arith, nat_tests) in
            let a = within_by from to e es false t in
            let b = early_no from e es later in
            let c = early_no to e es past in
            omega (arith, a, b, c, rest)
        | inr inside ↦
            let t : (nat_le from (time_of e) && nat_lt (time_of e) to) ≡ true = grind (arith, nat_tests) in
            let a = within_by from to e es true t in
            let b = early_no from e es later in
            let c = early_yes to e es inside in
            omega (arith, a, b, c, rest)
      ]
    ]
