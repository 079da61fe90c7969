-- Ranks: a number for each end that rises along arrows between unmuted ends.
use Rattle.std.proofs.Common.{ℕ, zero, suc, ◌≡◌, ◌+◌, ◌<◌, ◌≤◌, length, List, [], ◌∷◌, ◌++◌, map, max, Bool, true, false, cond, ◌⊎◌, inl, inr, refl, sym, ◌∙◌, ap, arith, subst}
use Rattle.std.specs.Prelude.{◌==◌, filter}
use Rattle.wa_base.specs.declared.graph_names.End.{End}
use Rattle.law_base.specs.Members.{IsIn, AreDistinct}
use Rattle.law_base.specs.Reaching.{reaches}
use Rattle.law_base.specs.Heights.{at_height}
use Rattle.law_base.proofs.Members.{same_map, IsIn-filter, IsIn-filter_from, AreDistinct-filter}
use Rattle.law_base.proofs.Reaching.{direct, further, up_to}
use Rattle.law_base.proofs.HeightLaws.{settled}
use Rattle.conn_graph.specs.declared.edges.Ports.{Ports}
use Rattle.conn_graph.specs.Graph.{Connections}
use Rattle.conn_graph.specs.Ends.{writer_of, reader_of, ends_from, ends, arrow, height, muted}
use Rattle.conn_graph.specs.Orders.{IsLegalAfter, IsLegalOrder}
use Rattle.conn_graph.proofs.EndLaws.{end_from, nat_same, same_nat}

abbrev top : List ℕ → ℕ
top [] = 0
top (x ∷ xs) = max x (top xs)

top_is : {X : Type 0} (f : X → ℕ) (xs : List X) (x : X) → IsIn x xs → f x ≤ top (map f xs)
top_is f [] x h = absurd h
top_is f (y ∷ ys) x (inl e) = let same : f x ≡ f y = ap f e in omega arith
top_is f (y ∷ ys) x (inr h) = let l = top_is f ys x h in omega arith

top_below : {X : Type 0} (f : X → ℕ) (xs : List X) (m : ℕ) → ((x : X) → f x ≤ m) → top (map f xs) ≤ m
top_below f [] m each = omega arith
top_below f (y ∷ ys) m each = let l = top_below f ys m each in let k = each y in omega arith

module _ (g : Connections) where
  abbrev heard : (End → ℕ) → End → End → ℕ
  heard s e d = cond (arrow g d e) (s d) 0

  abbrev rank_rule : (End → ℕ) → End → ℕ
  rank_rule s e = cond (muted g e) 0 (suc (top (map (heard s e) (ends g))))

  pub rank : End → ℕ
  rank e = at_height (λ _. 0) rank_rule (length (ends g)) e

  rank_local : (e : End) (s t : End → ℕ) → IsIn e (ends g) → ((d : End) → IsIn d (ends g) → arrow g d e ≡ true → s d ≡ t d) → rank_rule s e ≡ rank_rule t e
  rank_local e s t h agree = ap (λ xs. cond (muted g e) 0 (suc (top xs))) (same_map (heard s e) (heard t e) (ends g) (λ d in_d. by_arrow d in_d (arrow g d e) refl))
    where
      by_arrow : (d : End) → IsIn d (ends g) → (b : Bool) → arrow g d e ≡ b → cond b (s d) 0 ≡ cond b (t d) 0
      by_arrow d in_d true a = agree d in_d a
      by_arrow d in_d false a = refl

  rank_quiet : (e : End) (n : ℕ) → n ≤ length (ends g) → reaches (arrow g) (ends g) n e e ≡ true → (s : End → ℕ) → rank_rule s e ≡ 0
  unfolding muted height
  rank_quiet e n l r s = rw (up_to (arrow g) (ends g) n (length (ends g)) e e l r) refl

  rank_is : (e : End) → IsIn e (ends g) → rank e ≡ rank_rule rank e
  unfolding rank at_height
  rank_is e h = sym (settled (ends g) (λ a b. arrow g a b ≡ true) (λ n a b. reaches (arrow g) (ends g) n a b ≡ true)
      (direct (arrow g) (ends g)) (further (arrow g) (ends g)) (λ _. 0) rank_rule rank_local rank_quiet (suc (length (ends g))) (omega arith) e h)

  -- along an arrow to an unmuted end the rank rises
  pub rank_rises : (d e : End) → IsIn d (ends g) → IsIn e (ends g) → arrow g d e ≡ true → muted g e ≡ false → rank d < rank e
  rank_rises d e in_d in_e a u =
      let l : heard rank e d ≤ top (map (heard rank e) (ends g)) = top_is (heard rank e) (ends g) d in_d in
      let k : rank d ≤ top (map (heard rank e) (ends g)) = rw a at l in
      let r : rank e ≡ suc (top (map (heard rank e) (ends g))) = rank_is e in_e ∙ ap (λ b. cond b 0 (suc (top (map (heard rank e) (ends g))))) u in
      omega arith

  rank_low : (h : ℕ) (e : End) → at_height (λ _. 0) rank_rule h e ≤ h
  unfolding at_height
  rank_low zero e = omega arith
  rank_low (suc h) e = by_muted (muted g e) (top_below (heard (at_height (λ _. 0) rank_rule h) e) (ends g) h (λ d. by_arrow d (arrow g d e) (rank_low h d)))
    where
      by_arrow : (d : End) (b : Bool) → at_height (λ _. 0) rank_rule h d ≤ h → cond b (at_height (λ _. 0) rank_rule h d) 0 ≤ h
      by_arrow d true l = l
      by_arrow d false l = omega arith

      by_muted : (b : Bool) → top (map (heard (at_height (λ _. 0) rank_rule h) e) (ends g)) ≤ h → cond b 0 (suc (top (map (heard (at_height (λ _. 0) rank_rule h) e) (ends g)))) ≤ suc h
      by_muted true l = omega arith
      by_muted false l = omega arith

node_low : (i : ℕ) (ns : List Ports) (e : End) → IsIn e (ends_from i ns) → i ≤ e.node.0
node_low i ns e h = let r = end_from i ns e h in let k = r.node in omega arith

distinct_from : (i : ℕ) (ns : List Ports) → AreDistinct (ends_from i ns)
distinct_from i [] = tt
distinct_from i (n ∷ ns) = by_kind (n.is_delay) (distinct_from (suc i) ns)
  where
    later : (b : Bool) (t : Bool) → IsIn (let x : End = record { node = record { 0 = i }; writer = t } in x) (ends_from (suc i) ns) → ⊥
    later b t h = let l = node_low (suc i) ns (record { node = record { 0 = i }; writer = t }) h in absurd (omega arith)

    apart : writer_of i ≡ reader_of i → ⊥
    apart h = let e = ap (λ (x : End). x.writer) h in absurd cc

    by_kind : (b : Bool) → AreDistinct (ends_from (suc i) ns) → AreDistinct (cond b (writer_of i ∷ reader_of i ∷ []) (reader_of i ∷ []) ++ ends_from (suc i) ns)
    by_kind true d = ((λ h. elim h [ inl e ↦ apart e | inr k ↦ later true true k ]), (later true false, d))
    by_kind false d = (later false false, d)

module _ (g : Connections) where
  -- the ends of ranks k + 1 to k + m, in order of their ranks
  abbrev levels : ℕ → ℕ → List End
  levels k zero = []
  levels k (suc m) = filter (λ e. rank g e == suc k) (ends g) ++ levels (suc k) m

  level_legal : (k : ℕ) (xs done rest : List End) → AreDistinct xs
      → ((x : End) → IsIn x xs → IsIn x (ends g) × (muted g x ≡ false) × (rank g x ≡ suc k))
      → ((x : End) → IsIn x xs → IsIn x done → ⊥)
      → ((d : End) → IsIn d (ends g) → muted g d ≡ false → rank g d ≤ k → IsIn d done)
      → ((all : List End) → ((d : End) → IsIn d done ⊎ IsIn d xs → IsIn d all) → ((d : End) → IsIn d all → IsIn d done ⊎ IsIn d xs) → IsLegalAfter g all rest)
      → IsLegalAfter g done (xs ++ rest)
  level_legal k [] done rest distinct each fresh low after = after done (λ d h. elim h [ inl m ↦ m | inr m ↦ absurd m ]) (λ d h. inl h)
  level_legal k (x ∷ xs) done rest distinct each fresh low after = (
    (each x (inl refl)).0,
    (each x (inl refl)).1,
    fresh x (inl refl),
    (λ d in_d u a. low d in_d u (let l = rank_rises g d x in_d (each x (inl refl)).0 a (each x (inl refl)).1 in let r = (each x (inl refl)).2 in omega arith)),
    level_legal k xs (x ∷ done) rest distinct.1 (λ y h. each y (inr h))
        (λ y h m. elim m [ inl e ↦ distinct.0 (subst (λ z. IsIn z xs) e h) | inr m ↦ fresh y (inr h) m ])
        (λ d in_d u l. inr (low d in_d u l))
        (λ all into out. after all
        (λ d h. elim h [ inl m ↦ into d (inl (inr m)) | inr m ↦ elim m [ inl e ↦ into d (inl (inl e)) | inr m ↦ into d (inr m) ] ])
        (λ d h. elim (out d h) [ inl m ↦ elim m [ inl e ↦ inr (inl e) | inr m ↦ inl m ] | inr m ↦ inr (inr m) ])),
  )

  unmuted_ranked : (e : End) (k : ℕ) → IsIn e (ends g) → rank g e ≡ suc k → muted g e ≡ false
  unmuted_ranked e k h r = by_test (muted g e) refl
    where
      by_test : (b : Bool) → muted g e ≡ b → muted g e ≡ false
      by_test false m = m
      by_test true m = let z : rank g e ≡ 0 = rank_is g e h ∙ ap (λ b. cond b 0 (suc (top (map (heard g (rank g) e) (ends g))))) m in absurd (omega arith)

  levels_legal : (m k : ℕ) (done : List End) → k + m ≡ length (ends g)
      → ((d : End) → IsIn d (ends g) → muted g d ≡ false → rank g d ≤ k → IsIn d done) → ((d : End) → IsIn d done → rank g d ≤ k) → IsLegalAfter g done (levels k m)
  unfolding rank ends
  levels_legal zero k done e low high = λ d in_d u. low d in_d u (let l = rank_low g (length (ends g)) d in omega arith)
  levels_legal (suc m) k done e low high =
      level_legal k (filter (λ e. rank g e == suc k) (ends g)) done (levels (suc k) m) (AreDistinct-filter _ (ends g) distinct_ends)
      (λ x h. let p = IsIn-filter (λ e. rank g e == suc k) (ends g) x h in let r : rank g x ≡ suc k = nat_same (rank g x) (suc k) p.1 in (p.0, unmuted_ranked x k p.0 r, r))
      (λ x h m. let p = IsIn-filter (λ e. rank g e == suc k) (ends g) x h in let r : rank g x ≡ suc k = nat_same (rank g x) (suc k) p.1 in let l = high x m in absurd (omega arith))
      low
      (λ all into out. levels_legal m (suc k) all (omega arith)
      (λ d in_d u l. into d (here_or_below d in_d u (rank_split (rank g d) k l)))
      (λ d h. elim (out d h) [
        | inl m ↦ let l = high d m in omega arith
        | inr m ↦ let p = IsIn-filter (λ e. rank g e == suc k) (ends g) d m in let r : rank g d ≡ suc k = nat_same (rank g d) (suc k) p.1 in omega arith
      ]))
    where
      distinct_ends : AreDistinct (ends g)
      distinct_ends = distinct_from 0 g.nodes

      rank_split : (r k : ℕ) → r ≤ suc k → (r ≤ k) ⊎ (r ≡ suc k)
      rank_split r k l = grind arith

      here_or_below : (d : End) → IsIn d (ends g) → muted g d ≡ false → (rank g d ≤ k) ⊎ (rank g d ≡ suc k) → IsIn d done ⊎ IsIn d (filter (λ e. rank g e == suc k) (ends g))
      here_or_below d in_d u (inl l) = inl (low d in_d u l)
      here_or_below d in_d u (inr r) = inr (IsIn-filter_from (λ e. rank g e == suc k) (ends g) d in_d (subst (λ n. (rank g d == n) ≡ true) r (same_nat (rank g d))))

  -- there is a legal order
  pub legal_order : (order : List End) × IsLegalOrder g order
  legal_order = (
    levels 0 (length (ends g)),
    levels_legal (length (ends g)) 0 [] (omega arith)
        (λ d in_d u l. let r : rank g d ≡ suc (top (map (heard g (rank g) d) (ends g))) = rank_is g d in_d ∙ ap (λ b. cond b 0 (suc (top (map (heard g (rank g) d) (ends g))))) u in absurd (omega arith))
        (λ d h. absurd h),
  )
