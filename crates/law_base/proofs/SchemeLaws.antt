-- The equations of a recursion over (moment, height), and that it looks only back.
use Rattle.std.proofs.Common.{ℕ, zero, suc, ◌≡◌, ◌<◌, ◌≤◌, Bool, true, false, refl, ◌∙◌, ap, arith}
use mathlib.Core.Path.{fun_ext}
use Rattle.std.specs.Prelude.{◌==◌, if◌then◌else◌}
use Rattle.std.proofs.lemmas.Bool.Decides.{nat_tests}
use Rattle.law_base.specs.Heights.{Scheme, at_height, before, at_moment, state}

same_or_not : (g n : ℕ) → g < suc n → (b : Bool) → (g == n) ≡ b → (b ≡ false → g < n)
same_or_not g n l b e h = grind (arith, nat_tests)

module _ {K S F : Type 0} (scheme : Scheme K S F) where
  pub moment-zero : (known : ℕ → K) (n : ℕ) → at_moment scheme known n 0 ≡ scheme.silence
  unfolding at_moment at_height
  moment-zero known n = refl

  pub moment-suc : (known : ℕ → K) (n h : ℕ) → at_moment scheme known n (suc h) ≡ scheme.rule (known n) n (before scheme known n) (at_moment scheme known n h)
  unfolding at_moment at_height
  moment-suc known n h = refl

  -- each earlier moment is seen at its full height
  pub before_is : (known : ℕ → K) (n g : ℕ) → g < n → before scheme known n g ≡ scheme.seen_as (known g) (state scheme known g)
  unfolding before state at_moment at_height
  before_is known zero g l = absurd (omega arith)
  before_is known (suc n) g l = by_test (g == n) refl (before_is known n g)
    where
      by_test : (b : Bool) → (g == n) ≡ b → (g < n → before scheme known n g ≡ scheme.seen_as (known g) (state scheme known g))
          → (if b then scheme.seen_as (known n) (at_height scheme.silence (scheme.rule (known n) n (before scheme known n)) (scheme.full (known n))) else before scheme known n g)
          ≡ scheme.seen_as (known g) (state scheme known g)
      by_test true e below = let same : n ≡ g = grind (arith, nat_tests) in ap (λ k. scheme.seen_as (known k) (state scheme known k)) same
      by_test false e below = below (same_or_not g n l false e refl)

  -- from the moment on there is nothing
  pub before_none : (known : ℕ → K) (n g : ℕ) → n ≤ g → before scheme known n g ≡ scheme.nothing
  unfolding before state at_moment at_height
  before_none known zero g l = refl
  before_none known (suc n) g l = by_test (g == n) refl (before_none known n g (omega arith))
    where
      by_test : (b : Bool) → (g == n) ≡ b → before scheme known n g ≡ scheme.nothing
          → (if b then scheme.seen_as (known n) (at_height scheme.silence (scheme.rule (known n) n (before scheme known n)) (scheme.full (known n))) else before scheme known n g) ≡ scheme.nothing
      by_test true e below = absurd (grind (arith, nat_tests))
      by_test false e below = below

  -- what is known later changes nothing earlier
  pub before_same : (known known' : ℕ → K) (n : ℕ) → ((k : ℕ) → k < n → known k ≡ known' k) → before scheme known n ≡ before scheme known' n
  unfolding before at_height
  before_same known known' zero same = refl
  before_same known known' (suc n) same =
      let rest : before scheme known n ≡ before scheme known' n = before_same known known' n (λ k l. same k (omega arith)) in
      let here : known n ≡ known' n = same n (omega arith) in
      fun_ext (λ g. let P : K → (ℕ → F) → F = λ k p. if g == n then scheme.seen_as k (at_height scheme.silence (scheme.rule k n p) (scheme.full k)) else p g in
      ap (λ k. P k (before scheme known n)) here ∙ ap (λ p. P (known' n) p) rest)

  pub state_same : (known known' : ℕ → K) (n : ℕ) → ((k : ℕ) → k ≤ n → known k ≡ known' k) → state scheme known n ≡ state scheme known' n
  unfolding state at_moment
  state_same known known' n same =
      let here : known n ≡ known' n = same n (omega arith) in
      let P : K → (ℕ → F) → S = λ k p. at_height scheme.silence (scheme.rule k n p) (scheme.full k) in
      ap (λ k. P k (before scheme known n)) here ∙ ap (λ p. P (known' n) p) (before_same known known' n (λ k l. same k (omega arith)))
