-- Arrows turned round, one after the other.
use Rattle.std.proofs.Common.{ℕ, ◌≡◌, ◌+◌, ◌<◌, length, List, [], ◌∷◌, drop, get_or, set, ◌⊎◌, inl, inr, sym, ◌∙◌, ap, subst}
use Rattle.std.specs.Prelude.{◌↔◌}
use Rattle.std.proofs.lemmas.Bool.{cases_eq}
use Rattle.std.proofs.lemmas.List.{get_or-set_same, get_or-set_other, drop_more}
use Rattle.law_base.specs.Members.{IsIn}

-- a vertex more is led back to from one target more
pub turned_more : (ts : List ℕ) (i : ℕ) → i < length ts → (back : List (List ℕ)) → get_or ts i 0 < length back → (v b a : ℕ)
    → (IsIn a (get_or (set back (get_or ts i 0) (v ∷ get_or back (get_or ts i 0) [])) b []) ⊎ ((a ≡ v) × IsIn b (drop (i + 1) ts))) ↔ (IsIn a (get_or back b []) ⊎ ((a ≡ v) × IsIn b (drop i ts)))
turned_more ts i inside back l v b a = elim (cases_eq b (get_or ts i 0)) [ inl e ↦ at_target e | inr ne ↦ elsewhere ne ]
  where
    same_list : b ≡ get_or ts i 0 → get_or (set back (get_or ts i 0) (v ∷ get_or back (get_or ts i 0) [])) b [] ≡ v ∷ get_or back b []
    same_list e = ap (λ x. get_or (set back (get_or ts i 0) (v ∷ get_or back (get_or ts i 0) [])) x []) e ∙ get_or-set_same back (get_or ts i 0) (v ∷ get_or back (get_or ts i 0) []) [] l ∙ ap (λ x. v ∷ get_or back x []) (sym e)

    one_more : IsIn b (drop (i + 1) ts) → IsIn b (drop i ts)
    one_more h = subst (λ xs. IsIn b xs) (sym (drop_more ts i 0 inside)) (inr h)

    at_target : b ≡ get_or ts i 0 → (IsIn a (get_or (set back (get_or ts i 0) (v ∷ get_or back (get_or ts i 0) [])) b []) ⊎ ((a ≡ v) × IsIn b (drop (i + 1) ts))) ↔ (IsIn a (get_or back b []) ⊎ ((a ≡ v) × IsIn b (drop i ts)))
    at_target e = (
      (λ h. elim h [
        | inl k ↦ elim (subst (λ xs. IsIn a xs) (same_list e) k) [
          | inl s ↦ inr (s, subst (λ xs. IsIn b xs) (sym (drop_more ts i 0 inside)) (inl e))
          | inr m ↦ inl m
        ]
        | inr k ↦ inr (k.0, one_more k.1)
      ]),
      (λ h. elim h [
        | inl k ↦ inl (subst (λ xs. IsIn a xs) (sym (same_list e)) (inr k))
        | inr k ↦ inl (subst (λ xs. IsIn a xs) (sym (same_list e)) (inl k.0))
      ]),
    )

    elsewhere : (b ≡ get_or ts i 0 → ⊥) → (IsIn a (get_or (set back (get_or ts i 0) (v ∷ get_or back (get_or ts i 0) [])) b []) ⊎ ((a ≡ v) × IsIn b (drop (i + 1) ts))) ↔ (IsIn a (get_or back b []) ⊎ ((a ≡ v) × IsIn b (drop i ts)))
    elsewhere ne =
        let other = get_or-set_other back (get_or ts i 0) b (v ∷ get_or back (get_or ts i 0) []) [] ne in (
          (λ h. elim h [ inl k ↦ inl (subst (λ xs. IsIn a xs) other k) | inr k ↦ inr (k.0, one_more k.1) ]),
          (λ h. elim h [
            | inl k ↦ inl (subst (λ xs. IsIn a xs) (sym other) k)
            | inr k ↦ elim (subst (λ xs. IsIn b xs) (drop_more ts i 0 inside) k.1) [ inl e ↦ absurd (ne e) | inr m ↦ inr (k.0, m) ]
          ]),
        )
