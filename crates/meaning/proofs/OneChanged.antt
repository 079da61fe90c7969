-- A list in which the items that pass a test are changed. Where items have keys of their own, that is one item.
use Rattle.std.proofs.Common.{ℕ, zero, suc, ◌≡◌, ◌<◌, ◌≤◌, ◌+◌, length, List, [], ◌∷◌, map, slice_index_or, slice_set, Bool, true, false, cond, not, None, Some, inl, inr, refl, sym, ◌∙◌, ap, arith, subst}
use Rattle.std.specs.Prelude.{if◌then◌else◌, nat_lt}
use Rattle.std.specs.List.{position, position_or_len}
use Rattle.std.proofs.lemmas.Bool.Decides.{nat_tests}
use Rattle.law_base.specs.Members.{IsIn, AreDistinct}

module _ {X : Type 0} (test : X → Bool) (change : X → X) where
  abbrev pub changed : X → X
  changed x = if test x then change x else x

  -- what the change keeps of an item it keeps of each
  pub changed_keeps : {K : Type 0} (key : X → K) → ((x : X) → key (change x) ≡ key x) → (xs : List X) → map key (map changed xs) ≡ map key xs
  changed_keeps key same [] = refl
  changed_keeps key same (x ∷ xs) = let here = by_test (test x) in let rest = changed_keeps key same xs in cc
    where
      by_test : (b : Bool) → key (if b then change x else x) ≡ key x
      by_test true = same x
      by_test false = refl

  -- a property of every item holds after the change, where the change keeps it
  pub each_changed : (P : X → Type 0) (xs : List X) → ((x : X) → IsIn x xs → P x) → ((x : X) → IsIn x xs → test x ≡ true → P x → P (change x)) → (x : X) → IsIn x (map changed xs) → P x
  each_changed P [] all keeps x is = absurd is
  each_changed P (y ∷ ys) all keeps x (inl same) = subst P (sym same) (by_test (test y) refl)
    where
      by_test : (b : Bool) → test y ≡ b → P (if b then change y else y)
      by_test true is = keeps y (inl refl) is (all y (inl refl))
      by_test false is = all y (inl refl)
  each_changed P (y ∷ ys) all keeps x (inr is) = each_changed P ys (λ z h. all z (inr h)) (λ z h. keeps z (inr h)) x is

  none_passes : (xs : List X) → length xs ≤ position_or_len test xs → map changed xs ≡ xs
  none_passes [] none = refl
  none_passes (x ∷ xs) none = by_test (test x) none (λ l. none_passes xs l)
    where
      by_test : (b : Bool) → suc (length xs) ≤ cond (not b) (1 + position_or_len test xs) 0 → (length xs ≤ position_or_len test xs → map changed xs ≡ xs) → (if b then change x else x) ∷ map changed xs ≡ x ∷ xs
      by_test true long rest = absurd (omega arith)
      by_test false long rest = ap (λ ys. x ∷ ys) (rest (omega arith))

  -- where no item passes, none is changed
  pub none_changed : (xs : List X) → position test xs ≡ None → map changed xs ≡ xs
  none_changed xs none = none_passes xs (by_test (nat_lt (position_or_len test xs) (length xs)) refl none)
    where
      by_test : (b : Bool) → nat_lt (position_or_len test xs) (length xs) ≡ b → cond b (Some (position_or_len test xs)) None ≡ None → length xs ≤ position_or_len test xs
      by_test true is h = absurd cc
      by_test false is h = grind (arith, nat_tests)

  module _ {K : Type 0} (key : X → K) (k : K) (means : (x : X) → test x ≡ true → key x ≡ k) where
    others_stay : (xs : List X) → (IsIn k (map key xs) → ⊥) → map changed xs ≡ xs
    others_stay [] none = refl
    others_stay (x ∷ xs) none = by_test (test x) refl (others_stay xs (λ h. none (inr h)))
      where
        by_test : (b : Bool) → test x ≡ b → map changed xs ≡ xs → (if b then change x else x) ∷ map changed xs ≡ x ∷ xs
        by_test true is rest = absurd (none (inl (sym (means x is))))
        by_test false is rest = ap (λ ys. x ∷ ys) rest

    later : (xs : List X) (i : ℕ) (d : X) → i < length xs → test (slice_index_or xs i d) ≡ true → IsIn k (map key xs)
    later [] i d below is = absurd (omega arith)
    later (x ∷ xs) zero d below is = inl (sym (means x is))
    later (x ∷ xs) (suc i) d below is = inr (later xs i d (omega arith) is)

    -- an item that passes is written over, and no other is changed
    pub written_over : (xs : List X) (i : ℕ) (d : X) → AreDistinct (map key xs) → i < length xs → test (slice_index_or xs i d) ≡ true → map changed xs ≡ slice_set xs i (change (slice_index_or xs i d))
    written_over [] i d once below is = absurd (omega arith)
    written_over (x ∷ xs) zero d once below is =
        ap (λ b. (if b then change x else x) ∷ map changed xs) is ∙ ap (λ ys. change x ∷ ys) (others_stay xs (λ h. once.0 (subst (λ y. IsIn y (map key xs)) (sym (means x is)) h)))
    written_over (x ∷ xs) (suc i) d once below is = by_test (test x) refl (written_over xs i d once.1 (omega arith) is)
      where
        by_test : (b : Bool) → test x ≡ b → map changed xs ≡ slice_set xs i (change (slice_index_or xs i d))
            → (if b then change x else x) ∷ map changed xs ≡ x ∷ slice_set xs i (change (slice_index_or xs i d))
        by_test true same rest = absurd (once.0 (subst (λ y. IsIn y (map key xs)) (sym (means x same)) (later xs i d (omega arith) is)))
        by_test false same rest = ap (λ ys. x ∷ ys) rest
