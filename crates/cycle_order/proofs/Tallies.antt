-- Counts of vertices that are raised and lowered one after the other.
use Rattle.std.proofs.Common.{ℕ, zero, suc, ◌≡◌, ◌+◌, ◌-◌, ◌<◌, ◌≤◌, length, List, [], ◌∷◌, drop, get_or, set, [], Bool, true, false, cond, ◌||◌, ◌&&◌, inl, inr, refl, sym, ◌∙◌, ap, arith, subst, eq-eqb}
use Rattle.std.specs.Prelude.{◌==◌, nat_lt}
use Rattle.std.proofs.lemmas.Bool.{cases_eq, ne_eqb, lt-ltb}
use Rattle.std.proofs.lemmas.List.{get_or-set_same, get_or-set_other, drop_more}
use Rattle.law_base.proofs.Tests.{or_second, and_both}
use Rattle.cycle_order.specs.Counts.{times}
use Rattle.cycle_order.proofs.Counts.{times_here, times_other}

module _ (ts : List ℕ) (i : ℕ) (inside : i < length ts) where
  pub first_here : times (get_or ts i 0) (drop i ts) ≡ times (get_or ts i 0) (drop (i + 1) ts) + 1
  first_here = ap (times (get_or ts i 0)) (drop_more ts i 0 inside) ∙ times_here (get_or ts i 0) (drop (i + 1) ts) ∙ omega arith

  pub first_other : (v : ℕ) → (v ≡ get_or ts i 0 → ⊥) → times v (drop i ts) ≡ times v (drop (i + 1) ts)
  first_other v ne = ap (times v) (drop_more ts i 0 inside) ∙ times_other (get_or ts i 0) v (drop (i + 1) ts) ne

  pub raised : (counts : List ℕ) (v : ℕ) → get_or ts i 0 < length counts
      → get_or (set counts (get_or ts i 0) (get_or counts (get_or ts i 0) 0 + 1)) v 0 + times v (drop (i + 1) ts) ≡ get_or counts v 0 + times v (drop i ts)
  raised counts v l = elim (cases_eq v (get_or ts i 0)) [
    | inl e ↦ subst (λ u. get_or (set counts (get_or ts i 0) (get_or counts (get_or ts i 0) 0 + 1)) u 0 + times u (drop (i + 1) ts) ≡ get_or counts u 0 + times u (drop i ts)) (sym e)
        (let here = first_here in let at = get_or-set_same counts (get_or ts i 0) (get_or counts (get_or ts i 0) 0 + 1) 0 l in omega arith)
    | inr ne ↦ let here = first_other v ne in let at = get_or-set_other counts (get_or ts i 0) v (get_or counts (get_or ts i 0) 0 + 1) 0 ne in omega arith
  ]

  pub lowered : (counts : List ℕ) (v : ℕ) → get_or ts i 0 < length counts → 0 < get_or counts (get_or ts i 0) 0
      → get_or (set counts (get_or ts i 0) (get_or counts (get_or ts i 0) 0 - 1)) v 0 + times v (drop i ts) ≡ get_or counts v 0 + times v (drop (i + 1) ts)
  lowered counts v l some = elim (cases_eq v (get_or ts i 0)) [
    | inl e ↦ subst (λ u. get_or (set counts (get_or ts i 0) (get_or counts (get_or ts i 0) 0 - 1)) u 0 + times u (drop i ts) ≡ get_or counts u 0 + times u (drop (i + 1) ts)) (sym e)
        (let here = first_here in let at = get_or-set_same counts (get_or ts i 0) (get_or counts (get_or ts i 0) 0 - 1) 0 l in omega arith)
    | inr ne ↦ let here = first_other v ne in let at = get_or-set_other counts (get_or ts i 0) v (get_or counts (get_or ts i 0) 0 - 1) 0 ne in omega arith
  ]

times_drop : (v : ℕ) (ts : List ℕ) (i : ℕ) → times v (drop i ts) ≤ times v ts
times_drop v ts zero = omega arith
times_drop v [] (suc i) = omega arith
times_drop v (t ∷ ts) (suc i) = let l = times_drop v ts i in by_test (t == v) l
  where
    by_test : (b : Bool) → times v (drop i ts) ≤ times v ts → times v (drop i ts) ≤ cond b 1 0 + times v ts
    by_test true l = omega arith
    by_test false l = omega arith

-- A vertex is ready where it was, or where its count has been lowered to 0.
abbrev pub ready_so_far : (ℕ → Bool) → List ℕ → List ℕ → List ℕ → ℕ → Bool
ready_so_far before ts rest counts v = before v || (nat_lt (times v rest) (times v ts) && get_or counts v 0 == 0)

module _ (before : ℕ → Bool) (ts : List ℕ) (i : ℕ) (inside : i < length ts) (counts : List ℕ) (below : get_or ts i 0 < length counts) (n : ℕ) where
  ready_other : (v : ℕ) → (v ≡ get_or ts i 0 → ⊥) → ready_so_far before ts (drop i ts) counts v ≡ ready_so_far before ts (drop (i + 1) ts) (set counts (get_or ts i 0) n) v
  ready_other v ne =
      ap (λ m. before v || (nat_lt m (times v ts) && get_or counts v 0 == 0)) (first_other ts i inside v ne)
      ∙ ap (λ m. before v || (nat_lt (times v (drop (i + 1) ts)) (times v ts) && m == 0)) (sym (get_or-set_other counts (get_or ts i 0) v n 0 ne))

  pub ready_added : (now then_ : ℕ → Bool) → ((v : ℕ) → now v ≡ ready_so_far before ts (drop i ts) counts v)
      → then_ (get_or ts i 0) ≡ true → ((v : ℕ) → (v ≡ get_or ts i 0 → ⊥) → then_ v ≡ now v) → n ≡ 0
      → (v : ℕ) → then_ v ≡ ready_so_far before ts (drop (i + 1) ts) (set counts (get_or ts i 0) n) v
  ready_added now then_ is here other down v = elim (cases_eq v (get_or ts i 0)) [
    | inl e ↦ subst (λ u. then_ u ≡ ready_so_far before ts (drop (i + 1) ts) (set counts (get_or ts i 0) n) u) (sym e)
        (here ∙ sym (or_second _ _ (and_both _ _ lowered_once (eq-eqb _ 0 (get_or-set_same counts (get_or ts i 0) n 0 below ∙ down)))))
    | inr ne ↦ other v ne ∙ is v ∙ ready_other v ne
  ]
    where
      lowered_once : nat_lt (times (get_or ts i 0) (drop (i + 1) ts)) (times (get_or ts i 0) ts) ≡ true
      lowered_once =
          let a = first_here ts i inside in
          let b = times_drop (get_or ts i 0) ts i in
          lt-ltb (times (get_or ts i 0) (drop (i + 1) ts)) (times (get_or ts i 0) ts) (omega arith)

  pub ready_kept : (now : ℕ → Bool) → ((v : ℕ) → now v ≡ ready_so_far before ts (drop i ts) counts v) → 0 < get_or counts (get_or ts i 0) 0 → (n ≡ 0 → ⊥)
      → (v : ℕ) → now v ≡ ready_so_far before ts (drop (i + 1) ts) (set counts (get_or ts i 0) n) v
  ready_kept now is some more v = elim (cases_eq v (get_or ts i 0)) [
    | inl e ↦ subst (λ u. now u ≡ ready_so_far before ts (drop (i + 1) ts) (set counts (get_or ts i 0) n) u) (sym e)
        (is (get_or ts i 0)
        ∙ neither (before (get_or ts i 0)) _ _ _ _ (ne_eqb (get_or counts (get_or ts i 0) 0) 0 (λ z. absurd (omega arith)))
        (ne_eqb (get_or (set counts (get_or ts i 0) n) (get_or ts i 0) 0) 0 (λ z. more (sym (get_or-set_same counts (get_or ts i 0) n 0 below) ∙ z))))
    | inr ne ↦ is v ∙ ready_other v ne
  ]
    where
      none : (a b : Bool) → b ≡ false → (a && b) ≡ false
      none true b h = h
      none false b h = refl

      neither : (p a b c d : Bool) → b ≡ false → d ≡ false → (p || (a && b)) ≡ (p || (c && d))
      neither p a b c d h k = ap (λ x. p || x) (none a b h ∙ sym (none c d k))
