-- The search for what a vertex reaches.
use Rattle.std.proofs.Common.{ℕ, zero, suc, ◌≡◌, ◌<◌, ◌≤◌, length, List, [], ◌∷◌, get_or, Bool, true, ◌⊎◌, inl, inr, refl, arith, subst}
use Rattle.std.proofs.lemmas.Bool.{eqb-true, eq-eqb}
use Rattle.std.proofs.lemmas.List.{get_or_past}
use Rattle.law_base.specs.Members.{IsIn}
use Rattle.law_base.proofs.Members.{list_any-IsIn, IsIn-list_any}
use Rattle.cycle_order.specs.Reach.{leads, is_marked}

pub is_led_to : (arrows : List (List ℕ)) (a b : ℕ) → leads arrows a b ≡ true → IsIn b (get_or arrows a [])
is_led_to arrows a b h =
    let found : (c : ℕ) × IsIn c (get_or arrows a []) × (_ ≡ true) = IsIn-list_any _ (get_or arrows a []) h in
    subst (λ x. IsIn x (get_or arrows a [])) (eqb-true found.0 b found.2) found.1

pub leads_to : (arrows : List (List ℕ)) (a b : ℕ) → IsIn b (get_or arrows a []) → leads arrows a b ≡ true
leads_to arrows a b h = list_any-IsIn _ (get_or arrows a []) b h (eq-eqb b b refl)

-- where arrows lead from, there is a vertex
pub source_within : (arrows : List (List ℕ)) (a b : ℕ) → leads arrows a b ≡ true → a < length arrows
source_within arrows a b h = elim (below_or_past a (length arrows)) [
  | inl l ↦ l
  | inr l ↦ absurd (subst (λ xs. IsIn b xs) (get_or_past arrows a [] l) (is_led_to arrows a b h))
]
  where
    below_or_past : (i n : ℕ) → (i < n) ⊎ (n ≤ i)
    below_or_past i n = grind arith

pub marked_within : (marks : List Bool) (v : ℕ) → is_marked marks v ≡ true → v < length marks
marked_within [] v m = absurd cc
marked_within (b ∷ bs) zero m = omega arith
marked_within (b ∷ bs) (suc v) m = let l = marked_within bs v m in omega arith
