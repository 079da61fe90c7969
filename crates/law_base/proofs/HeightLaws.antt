-- Heights settle where no end reaches itself.
use Rattle.std.proofs.Common.{ℕ, zero, suc, ◌≡◌, ◌+◌, ◌-◌, ◌≤◌, length, List, ◌⊎◌, inl, inr, refl, sym, ◌∙◌, ap, arith, subst}
use Rattle.law_base.specs.Members.{IsIn}
use Rattle.law_base.specs.Heights.{at_height}
use Rattle.law_base.proofs.Members.{without, length-without, IsIn-without}

module _ {E A : Type 0} (ends : List E) (Arrow : E → E → Type 0) (Reach : ℕ → E → E → Type 0)
    (direct : (n : ℕ) (a b : E) → Arrow a b → Reach (suc n) a b)
    (further : (n : ℕ) (a b c : E) → IsIn b ends → Arrow a b → Reach n b c → Reach (suc n) a c)
    (silence : E → A) (rule : (E → A) → E → A)
    (local : (e : E) (s t : E → A) → IsIn e ends → ((d : E) → IsIn d ends → Arrow d e → s d ≡ t d) → rule s e ≡ rule t e)
    (quiet : (e : E) (n : ℕ) → n ≤ length ends → Reach n e e → (s : E → A) → rule s e ≡ silence e) where
  -- an end that reaches itself is silent at every height
  always_quiet : (e : E) (n : ℕ) → n ≤ length ends → Reach n e e → (h : ℕ) → at_height silence rule h e ≡ silence e
  unfolding at_height
  always_quiet e n l r zero = refl
  always_quiet e n l r (suc h) = quiet e n l r _

  -- the step of settles: what holds one height lower, with e no longer left, holds here
  one_more : (h n : ℕ) (left : List E) → length left + n ≤ length ends → length left ≤ suc h → (e : E) → IsIn e ends
      → ((x : E) → IsIn x ends → IsIn x left ⊎ Reach n e x) → (m : IsIn e left)
      → ((d : E) → IsIn d ends → ((x : E) → IsIn x ends → IsIn x (without e left m) ⊎ Reach (suc n) d x) → at_height silence rule (suc h) d ≡ at_height silence rule h d)
      → at_height silence rule (suc (suc h)) e ≡ at_height silence rule (suc h) e
  unfolding at_height
  one_more h n left few low e in_ends each m below =
      local e _ _ in_ends (λ d in_d arrow. below d in_d (λ x in_x. elim (each x in_x) [
        | inr r ↦ inr (further n d e x in_ends arrow r)
        | inl k ↦ elim (IsIn-without e left m x k) [
          | inl same ↦ inr (subst (λ y. Reach (suc n) d y) (sym same) (direct n d e arrow))
          | inr still ↦ inl still
        ]
      ]))

  -- Each end is one of those left, or e reaches it by n arrows: then as many heights as are left settle e.
  pub settles : (h n : ℕ) (left : List E) → length left + n ≤ length ends → length left ≤ h → (e : E) → IsIn e ends
      → ((x : E) → IsIn x ends → IsIn x left ⊎ Reach n e x) → at_height silence rule (suc h) e ≡ at_height silence rule h e
  settles zero n left few low e in_ends each = elim (each e in_ends) [
    | inr r ↦ always_quiet e n (omega arith) r 1 ∙ sym (always_quiet e n (omega arith) r 0)
    | inl m ↦ absurd (let k = length-without e left m in omega arith)
  ]
  settles (suc h) n left few low e in_ends each = elim (each e in_ends) [
    | inr r ↦ always_quiet e n (omega arith) r (suc (suc h)) ∙ sym (always_quiet e n (omega arith) r (suc h))
    | inl m ↦
        let k = length-without e left m in
        one_more h n left few low e in_ends each m (λ d in_d each_d. settles h (suc n) (without e left m) (omega arith) (omega arith) d in_d each_d)
  ]

  -- from the number of ends on, every height gives the same
  pub settled : (h : ℕ) → length ends ≤ h → (e : E) → IsIn e ends → at_height silence rule h e ≡ at_height silence rule (length ends) e
  settled h low e in_ends = subst (λ k. at_height silence rule k e ≡ at_height silence rule (length ends) e) (omega arith) (go (h - length ends))
    where
      go : (k : ℕ) → at_height silence rule (k + length ends) e ≡ at_height silence rule (length ends) e
      go zero = ap (λ j. at_height silence rule j e) (omega arith)
      go (suc k) =
          ap (λ j. at_height silence rule j e) (omega arith)
          ∙ settles (k + length ends) 0 ends (omega arith) (omega arith) e in_ends (λ x in_x. inl in_x)
          ∙ go k
