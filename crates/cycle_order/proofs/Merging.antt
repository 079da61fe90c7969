-- A list and those of its members that pass a test, gone along at once.
use Rattle.std.proofs.Common.{ℕ, zero, suc, ◌≡◌, ◌+◌, ◌<◌, length, List, [], ◌∷◌, ◌++◌, drop, get_or, filter, slice_get, Some, Bool, true, false, not, cond, inl, refl, sym, ◌∙◌, ap, arith, subst}
use Rattle.std.proofs.lemmas.List.{drop_more, append_assoc}
use Rattle.std.proofs.lemmas.Option.{slice_get_within, slice_get-get_or}
use Rattle.law_base.specs.Members.{IsIn}
use Rattle.law_base.proofs.Members.{IsIn-filter}

pub head_of_drop : {X : Type 0} (xs : List X) (i : ℕ) (x : X) (ys : List X) (d : X) → drop i xs ≡ x ∷ ys → (i < length xs) × (get_or xs i d ≡ x) × (drop (i + 1) xs ≡ ys)
head_of_drop [] zero x ys d is = absurd cc
head_of_drop [] (suc i) x ys d is = absurd cc
head_of_drop (z ∷ zs) zero x ys d is = (omega arith, cc, cc)
head_of_drop (z ∷ zs) (suc i) x ys d is =
    let rest = head_of_drop zs i x ys d is in
    (let l = rest.0 in omega arith, rest.1, ap (λ n. drop n (z ∷ zs)) (let e : suc i + 1 ≡ suc (i + 1) = omega arith in e) ∙ rest.2)

-- what is left of those that pass are those of what is left
abbrev pub AreLeft : {X : Type 0} → (X → Bool) → List X → List X → ℕ → ℕ → Type 0
AreLeft test all listed i place = drop place listed ≡ filter test (drop i all)

module _ {X : Type 0} (test : X → Bool) (all listed : List X) (d : X) where
  pub first_left : (i place : ℕ) → i < length all → AreLeft test all listed i place → drop place listed ≡ cond (test (get_or all i d)) (get_or all i d ∷ filter test (drop (i + 1) all)) (filter test (drop (i + 1) all))
  first_left i place l left = left ∙ ap (filter test) (drop_more all i d l)

  -- the next member passes where it is the next one of those that pass
  pub is_next : (i place : ℕ) → i < length all → AreLeft test all listed i place → slice_get listed place ≡ Some (get_or all i d) → (test (get_or all i d) ≡ true) × AreLeft test all listed (i + 1) (place + 1)
  is_next i place l left at = by_test (test (get_or all i d)) refl
    where
      there : place < length listed
      there = slice_get_within listed place (get_or all i d) at

      same : get_or listed place d ≡ get_or all i d
      same = let both : Some (get_or listed place d) ≡ Some (get_or all i d) = sym (slice_get-get_or listed place d there) ∙ at in cc

      first : drop place listed ≡ get_or all i d ∷ drop (place + 1) listed
      first = drop_more listed place d there ∙ ap (λ x. x ∷ drop (place + 1) listed) same

      by_test : (b : Bool) → test (get_or all i d) ≡ b → (b ≡ true) × AreLeft test all listed (i + 1) (place + 1)
      by_test true is =
          let parts : get_or all i d ∷ drop (place + 1) listed ≡ get_or all i d ∷ filter test (drop (i + 1) all) =
          sym first ∙ first_left i place l left ∙ ap (λ b. cond b (get_or all i d ∷ filter test (drop (i + 1) all)) (filter test (drop (i + 1) all))) is in
          (refl, cc)
      by_test false is =
          let parts : get_or all i d ∷ drop (place + 1) listed ≡ filter test (drop (i + 1) all) =
          sym first ∙ first_left i place l left ∙ ap (λ b. cond b (get_or all i d ∷ filter test (drop (i + 1) all)) (filter test (drop (i + 1) all))) is in
          let passes : test (get_or all i d) ≡ true = (IsIn-filter test (drop (i + 1) all) (get_or all i d) (subst (λ xs. IsIn (get_or all i d) xs) parts (inl refl))).1 in
          absurd (let no = sym passes ∙ is in cc)

  -- and fails where it is not
  pub is_other : (i place : ℕ) → i < length all → AreLeft test all listed i place → (slice_get listed place ≡ Some (get_or all i d) → ⊥) → (test (get_or all i d) ≡ false) × AreLeft test all listed (i + 1) place
  is_other i place l left other = by_test (test (get_or all i d)) refl
    where
      by_test : (b : Bool) → test (get_or all i d) ≡ b → (b ≡ false) × AreLeft test all listed (i + 1) place
      by_test true is =
          let parts = head_of_drop listed place (get_or all i d) (filter test (drop (i + 1) all)) d (first_left i place l left ∙ ap (λ b. cond b (get_or all i d ∷ filter test (drop (i + 1) all)) (filter test (drop (i + 1) all))) is) in
          absurd (other (slice_get-get_or listed place d parts.0 ∙ ap (λ x. Some x) parts.1))
      by_test false is = (refl, first_left i place l left ∙ ap (λ b. cond b (get_or all i d ∷ filter test (drop (i + 1) all)) (filter test (drop (i + 1) all))) is)

  -- the members that fail, so far
  pub fails_on : (i : ℕ) (rest : List X) → i < length all → test (get_or all i d) ≡ true → rest ++ filter (λ x. not (test x)) (drop i all) ≡ filter (λ x. not (test x)) all → rest ++ filter (λ x. not (test x)) (drop (i + 1) all) ≡ filter (λ x. not (test x)) all
  fails_on i rest l is before =
      sym (ap (λ xs. rest ++ filter (λ x. not (test x)) xs) (drop_more all i d l)
      ∙ ap (λ b. rest ++ cond (not b) (get_or all i d ∷ filter (λ x. not (test x)) (drop (i + 1) all)) (filter (λ x. not (test x)) (drop (i + 1) all))) is)
      ∙ before

  pub fails_more : (i : ℕ) (rest : List X) → i < length all → test (get_or all i d) ≡ false → rest ++ filter (λ x. not (test x)) (drop i all) ≡ filter (λ x. not (test x)) all
      → (rest ++ get_or all i d ∷ []) ++ filter (λ x. not (test x)) (drop (i + 1) all) ≡ filter (λ x. not (test x)) all
  fails_more i rest l is before =
      append_assoc rest (get_or all i d ∷ []) (filter (λ x. not (test x)) (drop (i + 1) all))
      ∙ sym (ap (λ xs. rest ++ filter (λ x. not (test x)) xs) (drop_more all i d l)
      ∙ ap (λ b. rest ++ cond (not b) (get_or all i d ∷ filter (λ x. not (test x)) (drop (i + 1) all)) (filter (λ x. not (test x)) (drop (i + 1) all))) is)
      ∙ before
