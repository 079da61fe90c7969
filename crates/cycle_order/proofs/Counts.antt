-- Arrows that lead to a vertex, counted.
use Rattle.std.proofs.Common.{ℕ, zero, suc, ◌≡◌, ◌+◌, ◌<◌, ◌≤◌, length, List, [], ◌∷◌, drop, get_or, Bool, true, false, not, cond, Some, inl, inr, refl, sym, ◌∙◌, ap, arith, subst, eq-eqb}
use Rattle.std.specs.Prelude.{◌==◌, ◌||◌, slice_get, Option}
use Rattle.std.specs.List.{filter, list_any}
use Rattle.std.proofs.lemmas.Bool.{eqb-true}
use Rattle.wa_base.specs.declared.graph_names.End.{End}
use Rattle.law_base.specs.Members.{IsIn}
use Rattle.law_base.proofs.Members.{list_any-IsIn, IsIn-list_any}
use Rattle.law_base.proofs.Tests.{not_true}
use Rattle.conn_graph.specs.Ends.{same_end}
use Rattle.conn_graph.proofs.EndLaws.{same_end-refl, same_end_is}
use Rattle.cycle_order.specs.Arrows.{vertex_of}
use Rattle.cycle_order.specs.Choices.{without}
use Rattle.cycle_order.specs.Counts.{times, entering, total, bias, AreRising}
use Rattle.cycle_order.specs.Reach.{leads}
use Rattle.cycle_order.proofs.Placing.{last_from}

-- ---- how often a vertex is in a list

pub times_le : (v : ℕ) (ts : List ℕ) → times v ts ≤ length ts
times_le v [] = omega arith
times_le v (t ∷ ts) = by_test (t == v) (times_le v ts)
  where
    by_test : (b : Bool) → times v ts ≤ length ts → cond b 1 0 + times v ts ≤ suc (length ts)
    by_test true l = omega arith
    by_test false l = omega arith

pub times_here : (t : ℕ) (ts : List ℕ) → times t (t ∷ ts) ≡ suc (times t ts)
times_here t ts = ap (λ b. cond b 1 0 + times t ts) (eq-eqb t t refl) ∙ omega arith

pub times_other : (t v : ℕ) (ts : List ℕ) → (v ≡ t → ⊥) → times v (t ∷ ts) ≡ times v ts
times_other t v ts ne = by_test (t == v) refl
  where
    by_test : (b : Bool) → (t == v) ≡ b → cond b 1 0 + times v ts ≡ times v ts
    by_test true e = absurd (ne (sym (eqb-true t v e)))
    by_test false e = omega arith

pub times_none : (v : ℕ) (ts : List ℕ) → times v ts ≡ 0 → list_any (λ c. c == v) ts ≡ false
times_none v [] h = refl
times_none v (t ∷ ts) h = by_test (t == v) h (times_none v ts)
  where
    by_test : (b : Bool) → cond b 1 0 + times v ts ≡ 0 → (times v ts ≡ 0 → list_any (λ c. c == v) ts ≡ false) → (b || list_any (λ c. c == v) ts) ≡ false
    by_test true h below = absurd (omega arith)
    by_test false h below = below (omega arith)

pub times_some : (v : ℕ) (ts : List ℕ) → IsIn v ts → 0 < times v ts
times_some v [] h = absurd h
times_some v (t ∷ ts) (inl e) = let k : times v (t ∷ ts) ≡ suc (times v ts) = ap (λ b. cond b 1 0 + times v ts) (eq-eqb t v (sym e)) ∙ omega arith in omega arith
times_some v (t ∷ ts) (inr h) = let k = times_some v ts h in by_test (t == v) k
  where
    by_test : (b : Bool) → 0 < times v ts → 0 < cond b 1 0 + times v ts
    by_test true l = omega arith
    by_test false l = omega arith

pub in_times : (v : ℕ) (ts : List ℕ) → 0 < times v ts → IsIn v ts
in_times v [] h = absurd (omega arith)
in_times v (t ∷ ts) h = by_test (t == v) refl h (in_times v ts)
  where
    by_test : (b : Bool) → (t == v) ≡ b → 0 < cond b 1 0 + times v ts → (0 < times v ts → IsIn v ts) → IsIn v (t ∷ ts)
    by_test true e h below = inl (sym (eqb-true t v e))
    by_test false e h below = inr (below (omega arith))

-- ---- how many arrows lead from some ends to a vertex

module _ (arrows : List (List ℕ)) (v : ℕ) where
  pub entering_none : (es : List End) → entering arrows es v ≡ 0 → list_any (λ d. leads arrows (vertex_of d) v) es ≡ false
  entering_none [] h = refl
  entering_none (e ∷ es) h =
      let first = times_none v (get_or arrows (vertex_of e) []) (omega arith) in
      ap (λ b. b || list_any (λ d. leads arrows (vertex_of d) v) es) first ∙ entering_none es (omega arith)

  pub none_entering : (es : List End) → list_any (λ d. leads arrows (vertex_of d) v) es ≡ false → entering arrows es v ≡ 0
  none_entering es h = by_count (entering arrows es v) refl
    where
      some_leads : (es : List End) → 0 < entering arrows es v → list_any (λ d. leads arrows (vertex_of d) v) es ≡ true
      some_leads [] l = absurd (omega arith)
      some_leads (e ∷ es) l = by_first (times v (get_or arrows (vertex_of e) [])) refl l (some_leads es)
        where
          or_true : (a b : Bool) → b ≡ true → (a || b) ≡ true
          or_true true b h = refl
          or_true false b h = h

          by_first : (n : ℕ) → times v (get_or arrows (vertex_of e) []) ≡ n → 0 < n + entering arrows es v → (0 < entering arrows es v → list_any (λ d. leads arrows (vertex_of d) v) es ≡ true)
              → (leads arrows (vertex_of e) v || list_any (λ d. leads arrows (vertex_of d) v) es) ≡ true
          by_first zero is l below = or_true _ _ (below (omega arith))
          by_first (suc n) is l below =
              let here : leads arrows (vertex_of e) v ≡ true = list_any-IsIn (λ c. c == v) (get_or arrows (vertex_of e) []) v (in_times v (get_or arrows (vertex_of e) []) (omega arith)) (eq-eqb v v refl) in
              ap (λ b. b || list_any (λ d. leads arrows (vertex_of d) v) es) here

      by_count : (n : ℕ) → entering arrows es v ≡ n → entering arrows es v ≡ 0
      by_count zero is = is
      by_count (suc n) is = let t = some_leads es (omega arith) in absurd cc

-- ---- the ends in the order of their vertices

pub rising_above : (low : ℕ) (es : List End) → AreRising low es → (e : End) → IsIn e es → low ≤ vertex_of e
rising_above low [] h e m = absurd m
rising_above low (x ∷ xs) h e (inl same) = subst (λ y. low ≤ vertex_of y) (sym same) h.0
rising_above low (x ∷ xs) h e (inr m) = let k = rising_above (suc (vertex_of x)) xs h.1 e m in let l = h.0 in omega arith

pub rising_from : (low high : ℕ) (es : List End) → low ≤ high → AreRising high es → AreRising low es
rising_from low high [] l h = tt
rising_from low high (e ∷ es) l h = (let k = h.0 in omega arith, h.1)

pub rising_filter : (p : End → Bool) (low : ℕ) (es : List End) → AreRising low es → AreRising low (filter p es)
rising_filter p low [] h = tt
rising_filter p low (e ∷ es) h = by_test (p e) (rising_filter p (suc (vertex_of e)) es h.1)
  where
    by_test : (b : Bool) → AreRising (suc (vertex_of e)) (filter p es) → AreRising low (cond b (e ∷ filter p es) (filter p es))
    by_test true k = (h.0, k)
    by_test false k = rising_from low (suc (vertex_of e)) (filter p es) (let l = h.0 in omega arith) k

apart_from_rest : (low : ℕ) (x : End) (xs : List End) → AreRising low (x ∷ xs) → IsIn x xs → ⊥
apart_from_rest low x xs h m = let l = rising_above (suc (vertex_of x)) xs h.1 x m in absurd (omega arith)

pub without_absent : (e : End) (es : List End) → (IsIn e es → ⊥) → without e es ≡ es
without_absent e [] h = refl
without_absent e (x ∷ xs) h =
    let other : same_end x e ≡ false = not_true (same_end x e) (λ t. h (inl (sym (same_end_is x e t)))) in
    ap (λ b. cond (not b) (x ∷ without e xs) (without e xs)) other ∙ ap (λ ys. x ∷ ys) (without_absent e xs (λ m. h (inr m)))

without_first : (low : ℕ) (e : End) (es : List End) → AreRising low (e ∷ es) → without e (e ∷ es) ≡ es
without_first low e es h =
    ap (λ b. cond (not b) (e ∷ without e es) (without e es)) (same_end-refl e) ∙ without_absent e es (apart_from_rest low e es h)

without_later : (low : ℕ) (e x : End) (es : List End) → AreRising low (x ∷ es) → IsIn e es → without e (x ∷ es) ≡ x ∷ without e es
without_later low e x es h m =
    let other : same_end x e ≡ false = not_true (same_end x e) (λ t. apart_from_rest low x es h (subst (λ y. IsIn y es) (sym (same_end_is x e t)) m)) in
    ap (λ b. cond (not b) (x ∷ without e es) (without e es)) other

pub entering_without : (arrows : List (List ℕ)) (v low : ℕ) (e : End) (es : List End) → AreRising low es → IsIn e es
    → entering arrows es v ≡ times v (get_or arrows (vertex_of e) []) + entering arrows (without e es) v
entering_without arrows v low e [] h m = absurd m
entering_without arrows v low e (x ∷ xs) h (inl same) =
    subst (λ y. entering arrows (y ∷ xs) v ≡ times v (get_or arrows (vertex_of e) []) + entering arrows (without e (y ∷ xs)) v) same
    (ap (λ ys. times v (get_or arrows (vertex_of e) []) + entering arrows ys v) (sym (without_first low e xs (subst (λ y. AreRising low (y ∷ xs)) (sym same) h))))
entering_without arrows v low e (x ∷ xs) h (inr m) =
    let rest = entering_without arrows v (suc (vertex_of x)) e xs h.1 m in
    let there : entering arrows (without e (x ∷ xs)) v ≡ times v (get_or arrows (vertex_of x) []) + entering arrows (without e xs) v = ap (λ ys. entering arrows ys v) (without_later low e x xs h m) in
    omega arith

pub length_without : (low : ℕ) (e : End) (es : List End) → AreRising low es → IsIn e es → suc (length (without e es)) ≡ length es
length_without low e [] h m = absurd m
length_without low e (x ∷ xs) h (inl same) =
    subst (λ y. suc (length (without e (y ∷ xs))) ≡ suc (length xs)) same (ap (λ (ys : List End). suc (length ys)) (without_first low e xs (subst (λ y. AreRising low (y ∷ xs)) (sym same) h)))
length_without low e (x ∷ xs) h (inr m) =
    ap (λ (ys : List End). suc (length ys)) (without_later low e x xs h m) ∙ ap suc (length_without (suc (vertex_of x)) e xs h.1 m)

-- the least of them is the first, and the greatest is the last
pub least_is : (low : ℕ) (e : End) (es : List End) → AreRising low es → IsIn e es → ((x : End) → IsIn x es → vertex_of e ≤ vertex_of x) → slice_get es 0 ≡ Some e
least_is low e [] h m least = absurd m
least_is low e (x ∷ xs) h (inl same) least = ap Some (sym same)
least_is low e (x ∷ xs) h (inr m) least =
    let k = rising_above (suc (vertex_of x)) xs h.1 e m in
    let l = least x (inl refl) in absurd (omega arith)

pub greatest_is : (low : ℕ) (before : Option End) (e : End) (es : List End) → AreRising low es → IsIn e es → ((x : End) → IsIn x es → vertex_of x ≤ vertex_of e) → last_from before es ≡ Some e
greatest_is low before e [] h m greatest = absurd m
greatest_is low before e (x ∷ []) h (inl same) greatest = ap Some (sym same)
greatest_is low before e (x ∷ y ∷ ys) h (inl same) greatest =
    let k = h.1.0 in let l = greatest y (inr (inl refl)) in
    let s : vertex_of e ≡ vertex_of x = ap vertex_of same in absurd (omega arith)
greatest_is low before e (x ∷ xs) h (inr m) greatest = greatest_is (suc (vertex_of x)) (Some x) e xs h.1 m (λ y k. greatest y (inr k))

-- ---- not more arrows than there are

total_drop : (arrows : List (List ℕ)) (low k : ℕ) → low ≤ k → k < length arrows → length (get_or arrows k []) + total (drop (suc k) arrows) ≤ total (drop low arrows)
total_drop [] low k l m = absurd (omega arith)
total_drop (ts ∷ tss) zero zero l m = omega arith
total_drop (ts ∷ tss) zero (suc k) l m = let r = total_drop tss zero k (omega arith) (omega arith) in omega arith
total_drop (ts ∷ tss) (suc low) zero l m = absurd (omega arith)
total_drop (ts ∷ tss) (suc low) (suc k) l m = total_drop tss low k (omega arith) (omega arith)

pub entering_le : (arrows : List (List ℕ)) (v low : ℕ) (es : List End) → AreRising low es → ((e : End) → IsIn e es → vertex_of e < length arrows) → entering arrows es v ≤ total (drop low arrows)
entering_le arrows v low [] h within = omega arith
entering_le arrows v low (e ∷ es) h within =
    let here = times_le v (get_or arrows (vertex_of e) []) in
    let rest = entering_le arrows v (suc (vertex_of e)) es h.1 (λ x m. within x (inr m)) in
    let sum = total_drop arrows low (vertex_of e) h.0 (within e (inl refl)) in
    omega arith

-- ---- vertices of no end

pub bias_in : (es : List End) (e : End) → IsIn e es → bias es (vertex_of e) ≡ 0
bias_in es e m = ap (λ b. cond b 0 1) (list_any-IsIn (λ x. vertex_of x == vertex_of e) es e m (eq-eqb (vertex_of e) (vertex_of e) refl))

pub in_bias : (es : List End) (v : ℕ) → bias es v ≡ 0 → (e : End) × IsIn e es × (vertex_of e ≡ v)
in_bias es v h = by_test (list_any (λ e. vertex_of e == v) es) refl
  where
    by_test : (b : Bool) → list_any (λ e. vertex_of e == v) es ≡ b → (e : End) × IsIn e es × (vertex_of e ≡ v)
    by_test true t = let k : (e : End) × IsIn e es × ((vertex_of e == v) ≡ true) = IsIn-list_any (λ e. vertex_of e == v) es t in (k.0, k.1, eqb-true (vertex_of k.0) v k.2)
    by_test false t =
        let one : bias es v ≡ 1 = ap (λ b. cond b 0 1) t in
        absurd (omega arith)

pub bias_le : (es : List End) (v : ℕ) → bias es v ≤ 1
bias_le es v = by_test (list_any (λ e. vertex_of e == v) es)
  where
    by_test : (b : Bool) → cond b 0 1 ≤ 1
    by_test true = omega arith
    by_test false = omega arith
