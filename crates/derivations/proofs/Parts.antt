-- The connections of a graph are those of each node, one node after another.
use Rattle.std.proofs.Common.{ℕ, zero, suc, ◌≡◌, ◌+◌, ◌<◌, ◌≤◌, List, [], ◌∷◌, ◌++◌, filter, Bool, true, false, cond, inl, inr, refl, sym, ◌∙◌, ap, ap₂, arith, subst}
use Rattle.std.specs.Prelude.{◌==◌}
use Rattle.std.specs.List.{flat_map, range_with_len}
use Rattle.std.proofs.lemmas.List.{append-nil, append_assoc}
use Rattle.std.proofs.lemmas.Bool.Decides.{nat_tests}
use Rattle.law_base.specs.Members.{IsIn}
use Rattle.conn_graph.specs.declared.edges.Edge.{Edge}
use Rattle.conn_graph.specs.Graph.{AreFrom}
use Rattle.conn_graph.specs.Cells.{leaves}

-- where all connections are of later nodes, none is of this one
none_leaves : (n low : ℕ) (es : List Edge) → n < low → AreFrom low es → filter (leaves n) es ≡ []
none_leaves n low [] l h = refl
none_leaves n low (e ∷ es) l h =
    let other : (e.from.0 == n) ≡ false = let k = h.0 in grind (arith, nat_tests) in
    ap (λ b. cond b (e ∷ filter (leaves n) es) (filter (leaves n) es)) other ∙ none_leaves n e.from.0 es (let k = h.0 in omega arith) h.1

-- the connections of later nodes
record Rest (low : ℕ) (es : List Edge) : Type 0 where
  later : List Edge
  ordered : AreFrom (low + 1) later
  whole : filter (leaves low) es ++ later ≡ es
  same : (i : ℕ) → low + 1 ≤ i → filter (leaves i) es ≡ filter (leaves i) later
  members : (e : Edge) → IsIn e later → IsIn e es

rest_of : (low : ℕ) (es : List Edge) → AreFrom low es → Rest low es
rest_of low [] h = record { later = []; ordered = tt; whole = refl; same = λ i l. refl; members = λ e m. m }
rest_of low (e ∷ es) h = by_test (e.from.0 == low) refl (λ k. rest_of low es k)
  where
    here : (e.from.0 == low) ≡ true → Rest low es → Rest low (e ∷ es)
    here t r = record {
      later = r.later;
      ordered = r.ordered;
      whole = ap (λ b. cond b (e ∷ filter (leaves low) es) (filter (leaves low) es) ++ r.later) t ∙ ap (λ xs. e ∷ xs) r.whole;
      same = λ i l.
          let other : (e.from.0 == i) ≡ false = grind (arith, nat_tests) in
          ap (λ b. cond b (e ∷ filter (leaves i) es) (filter (leaves i) es)) other ∙ r.same i l;
      members = λ x m. inr (r.members x m);
    }

    by_test : (b : Bool) → (e.from.0 == low) ≡ b → (AreFrom low es → Rest low es) → Rest low (e ∷ es)
    by_test true t below = here t (below (subst (λ k. AreFrom k es) (let same : e.from.0 ≡ low = grind (arith, nat_tests) in same) h.1))
    by_test false t below =
        let later : low + 1 ≤ e.from.0 = let k = h.0 in grind (arith, nat_tests) in
        record {
          later = e ∷ es;
          ordered = (later, h.1);
          whole = ap (λ xs. xs ++ e ∷ es) (none_leaves low (low + 1) (e ∷ es) (omega arith) (later, h.1));
          same = λ i l. refl;
          members = λ x m. m;
        }

same_flat : {X : Type 0} (f g : ℕ → List X) (low k : ℕ) → ((i : ℕ) → low ≤ i → f i ≡ g i) → flat_map f (range_with_len low k) ≡ flat_map g (range_with_len low k)
same_flat f g low zero each = refl
same_flat f g low (suc k) each = ap₂ (λ xs ys. xs ++ ys) (each low (omega arith)) (same_flat f g (low + 1) k (λ i l. each i (omega arith)))

pub parts : (k low : ℕ) (es : List Edge) → AreFrom low es → ((e : Edge) → IsIn e es → e.from.0 < low + k) → flat_map (λ i. filter (leaves i) es) (range_with_len low k) ≡ es
parts zero low [] h within = refl
parts zero low (e ∷ es) h within = absurd (let a = within e (inl refl) in let b = h.0 in omega arith)
parts (suc k) low es h within =
    let r = rest_of low es h in
    ap (λ xs. filter (leaves low) es ++ xs) (same_flat (λ i. filter (leaves i) es) (λ i. filter (leaves i) r.later) (low + 1) k r.same
    ∙ parts k (low + 1) r.later r.ordered (λ e m. let a = within e (r.members e m) in omega arith))
    ∙ r.whole

pub flat_more : {X : Type 0} (f : ℕ → List X) (n low : ℕ) → flat_map f (range_with_len low (suc n)) ≡ flat_map f (range_with_len low n) ++ f (low + n)
flat_more f zero low = append-nil (f low) ∙ ap f (let e : low ≡ low + 0 = omega arith in e)
flat_more f (suc n) low =
    ap (λ xs. f low ++ xs) (flat_more f n (low + 1))
    ∙ sym (append_assoc (f low) (flat_map f (range_with_len (low + 1) n)) (f (low + 1 + n)))
    ∙ ap (λ k. (f low ++ flat_map f (range_with_len (low + 1) n)) ++ f k) (let e : low + 1 + n ≡ low + suc n = omega arith in e)
