-- Reaching by arrows.
use Rattle.std.proofs.Common.{ℕ, zero, suc, ◌≡◌, ◌+◌, ◌-◌, ◌≤◌, length, List, Bool, true, false, ◌&&◌, ◌⊎◌, inl, inr, refl, arith, subst}
use Rattle.law_base.specs.Members.{IsIn}
use Rattle.law_base.specs.Reaching.{reaches}
use Rattle.law_base.proofs.Members.{list_any-IsIn, IsIn-list_any, without, length-without, IsIn-without}
use Rattle.law_base.proofs.Tests.{or_first, or_second, or_cases, and_both, and_parts, not_true}

module _ {E : Type 0} (arrow : E → E → Bool) (ends : List E) where
  pub direct : (n : ℕ) (a b : E) → arrow a b ≡ true → reaches arrow ends (suc n) a b ≡ true
  unfolding reaches
  direct n a b h = or_first _ _ h

  pub further : (n : ℕ) (a b c : E) → IsIn b ends → arrow a b ≡ true → reaches arrow ends n b c ≡ true → reaches arrow ends (suc n) a c ≡ true
  unfolding reaches
  further n a b c m h r = or_second _ _ (list_any-IsIn _ ends b m (and_both _ _ h r))

  -- the first arrow of a way
  pub first_arrow : (n : ℕ) (a c : E) → reaches arrow ends (suc n) a c ≡ true
      → (arrow a c ≡ true) ⊎ ((b : E) × IsIn b ends × (arrow a b ≡ true) × (reaches arrow ends n b c ≡ true))
  unfolding reaches
  first_arrow n a c r = elim (or_cases _ _ r) [
    | inl h ↦ inl h
    | inr t ↦
        let found : (b : E) × IsIn b ends × ((arrow a b && reaches arrow ends n b c) ≡ true) = IsIn-list_any _ ends t in
        let parts = and_parts _ _ found.2 in inr (found.0, found.1, parts.0, parts.1)
  ]

  pub more : (n : ℕ) (a b : E) → reaches arrow ends n a b ≡ true → reaches arrow ends (suc n) a b ≡ true
  unfolding reaches
  more zero a b r = absurd cc
  more (suc n) a b r = elim (first_arrow n a b r) [
    | inl h ↦ direct (suc n) a b h
    | inr (c, m, h, rest) ↦ further (suc n) a c b m h (more n c b rest)
  ]

  pub up_to : (n m : ℕ) (a b : E) → n ≤ m → reaches arrow ends n a b ≡ true → reaches arrow ends m a b ≡ true
  up_to n m a b l r = subst (λ k. reaches arrow ends k a b ≡ true) (omega arith) (go (m - n))
    where
      go : (k : ℕ) → reaches arrow ends (k + n) a b ≡ true
      go zero = subst (λ k. reaches arrow ends k a b ≡ true) (omega arith) r
      go (suc k) = subst (λ k. reaches arrow ends k a b ≡ true) (omega arith) (more (k + n) a b (go k))

  -- The ends that reach b by n + 1 arrows are all left, and a reaches it by no fewer: then more than n are left.
  distance : (n : ℕ) (left : List E) (a b : E) → IsIn a ends → reaches arrow ends (suc n) a b ≡ true → reaches arrow ends n a b ≡ false
      → ((x : E) → IsIn x ends → reaches arrow ends (suc n) x b ≡ true → IsIn x left) → suc n ≤ length left
  distance zero left a b in_ends far near each = let m = each a in_ends far in let k = length-without a left m in omega arith
  distance (suc n) left a b in_ends far near each = elim (first_arrow (suc n) a b far) [
    | inl h ↦ let t : reaches arrow ends (suc n) a b ≡ true = direct n a b h in absurd cc
    | inr (c, in_c, h, rest) ↦
        let m : IsIn a left = each a in_ends far in
        let k : length (without a left m) + 1 ≡ length left = length-without a left m in
        let shorter : suc n ≤ length (without a left m) =
        distance n (without a left m) c b in_c rest
        (not_true (reaches arrow ends n c b) (λ t. let also : reaches arrow ends (suc n) a b ≡ true = further n a c b in_c h t in absurd cc))
        (λ x in_x r. elim (IsIn-without a left m x (each x in_x (more (suc n) x b r))) [
          | inl same ↦ let t : reaches arrow ends (suc n) a b ≡ true = subst (λ y. reaches arrow ends (suc n) y b ≡ true) same r in absurd cc
          | inr still ↦ still
        ])
        in omega arith
  ]

  saturated : (a b : E) → IsIn a ends → reaches arrow ends (suc (length ends)) a b ≡ true → reaches arrow ends (length ends) a b ≡ true
  saturated a b in_ends far = by_test (reaches arrow ends (length ends) a b) refl
    where
      by_test : (t : Bool) → reaches arrow ends (length ends) a b ≡ t → t ≡ true
      by_test true e = refl
      by_test false e = let l : suc (length ends) ≤ length ends = distance (length ends) ends a b in_ends far e (λ x in_x r. in_x) in absurd (omega arith)

  -- As many arrows as there are ends reach all that any number of arrows reaches.
  pub enough : (n : ℕ) (a b : E) → IsIn a ends → reaches arrow ends n a b ≡ true → reaches arrow ends (length ends) a b ≡ true
  enough zero a b in_ends r = up_to 0 (length ends) a b (omega arith) r
  enough (suc n) a b in_ends r = elim (first_arrow n a b r) [
    | inl h ↦ up_to 1 (length ends) a b (let k = length-without a ends in_ends in omega arith) (direct 0 a b h)
    | inr (c, in_c, h, rest) ↦ saturated a b in_ends (further (length ends) a c b in_c h (enough n c b in_c rest))
  ]

  pub no_way : (a b : E) → reaches arrow ends 0 a b ≡ true → ⊥
  unfolding reaches
  no_way a b r = absurd cc

  pub joined : (n m : ℕ) (a b c : E) → IsIn b ends → reaches arrow ends n a b ≡ true → reaches arrow ends m b c ≡ true → reaches arrow ends (n + m) a c ≡ true
  joined zero m a b c in_b r s = absurd (no_way a b r)
  joined (suc n) m a b c in_b r s = elim (first_arrow n a b r) [
    | inl h ↦ subst (λ k. reaches arrow ends k a c ≡ true) (omega arith) (up_to (suc m) (suc n + m) a c (omega arith) (further m a b c in_b h s))
    | inr (d, in_d, h, rest) ↦ subst (λ k. reaches arrow ends k a c ≡ true) (omega arith) (further (n + m) a d c in_d h (joined n m d b c in_b rest s))
  ]
