-- The connections of all walks, one walk after another.
use Rattle.std.proofs.Common.{ℕ, zero, suc, ◌≡◌, ◌+◌, ◌<◌, ◌≤◌, length, List, [], ◌∷◌, ◌++◌, slice_set, filter, Bool, true, false, not, cond, ◌⊎◌, inl, inr, refl, sym, ◌∙◌, ap, ap₂, subst, arith}
use Rattle.std.specs.Prelude.{◌==◌, ◌&&◌, nat_lt}
use Rattle.std.specs.List.{list_any}
use Rattle.std.proofs.lemmas.Bool.Decides.{nat_tests}
use Rattle.std.proofs.lemmas.List.{append-nil, append_assoc, map-append}
use Rattle.std.proofs.lemmas.List.Elements.{filter-append}
use Rattle.law_base.specs.Members.{IsIn, AreDistinct}
use Rattle.law_base.proofs.Members.{IsIn-append, IsIn-append_first, IsIn-append_second, IsIn-filter, IsIn-filter_from, AreDistinct-filter, list_any-IsIn, IsIn-list_any, without, length-without, IsIn-without}
use Rattle.conn_graph.specs.declared.edges.Edge.{Edge}
use Rattle.conn_graph.specs.declared.edges.Form.{Form}
use Rattle.conn_graph.specs.Edges.{target_node, is_meant, is_named}
use Rattle.conn_graph.specs.Cells.{leaves, enters}
use Rattle.conn_graph.specs.Walks.{Walk, IsOutWalk, IsInWalk}
use Rattle.conn_graph.specs.Lists.{keys, edges_of, edges_in, walk_at, Threads, AreThreads, connections_of}
use Rattle.conn_graph.proofs.Puts.{put}

-- ---- one walk

pub filter_all : {X : Type 0} (test : X → Bool) (xs : List X) → ((x : X) → IsIn x xs → test x ≡ true) → filter test xs ≡ xs
filter_all test [] all = refl
filter_all test (x ∷ xs) all = ap₂ (λ b ys. cond b (x ∷ ys) ys) (all x (inl refl)) (filter_all test xs (λ y m. all y (inr m)))

filter_no : (test : Edge → Bool) (w : Walk) → ((s : ℕ × Edge) → IsIn s w → test s.1 ≡ false) → filter test (edges_of w) ≡ []
filter_no test [] none = refl
filter_no test (s ∷ w) none = ap₂ (λ b es. cond b (s.1 ∷ es) es) (none s (inl refl)) (filter_no test w (λ t m. none t (inr m)))

filter_edges : (test : Edge → Bool) (w : Walk) → filter test (edges_of w) ≡ edges_of (filter (λ (s : ℕ × Edge). test s.1) w)
filter_edges test [] = refl
filter_edges test (s ∷ w) = by_test (test s.1) (filter_edges test w)
  where
    by_test : (b : Bool) → filter test (edges_of w) ≡ edges_of (filter (λ (s : ℕ × Edge). test s.1) w)
        → cond b (s.1 ∷ filter test (edges_of w)) (filter test (edges_of w)) ≡ edges_of (cond b (s ∷ filter (λ (s : ℕ × Edge). test s.1) w) (filter (λ (s : ℕ × Edge). test s.1) w))
    by_test true below = ap (λ es. s.1 ∷ es) below
    by_test false below = below

pub edge_in : (w : Walk) (s : ℕ × Edge) → IsIn s w → IsIn s.1 (edges_of w)
edge_in [] s h = absurd h
edge_in (x ∷ w) s (inl e) = inl (ap (λ (t : ℕ × Edge). t.1) e)
edge_in (x ∷ w) s (inr h) = inr (edge_in w s h)

pub step_of_edge : (w : Walk) (e : Edge) → IsIn e (edges_of w) → (s : ℕ × Edge) × IsIn s w × (e ≡ s.1)
step_of_edge [] e h = absurd h
step_of_edge (x ∷ w) e (inl same) = (x, inl refl, same)
step_of_edge (x ∷ w) e (inr h) = let r = step_of_edge w e h in (r.0, inr r.1, r.2)

walk_all : (test : Edge → Bool) (w : Walk) → ((s : ℕ × Edge) → IsIn s w → test s.1 ≡ true) → filter test (edges_of w) ≡ edges_of w
walk_all test w all = filter_all test (edges_of w) (λ e m. let r = step_of_edge w e m in subst (λ x. test x ≡ true) (sym r.2) (all r.0 r.1))

same_key : (w : Walk) (s t : ℕ × Edge) → AreDistinct (edges_of w) → IsIn s w → IsIn t w → s.1 ≡ t.1 → s.0 ≡ t.0
same_key [] s t once a b e = absurd a
same_key (x ∷ w) s t once (inl a) (inl b) e = ap (λ (r : ℕ × Edge). r.0) (a ∙ sym b)
same_key (x ∷ w) s t once (inl a) (inr b) e = absurd (once.0 (subst (λ y. IsIn y (edges_of w)) (sym e ∙ ap (λ (r : ℕ × Edge). r.1) a) (edge_in w t b)))
same_key (x ∷ w) s t once (inr a) (inl b) e = absurd (once.0 (subst (λ y. IsIn y (edges_of w)) (e ∙ ap (λ (r : ℕ × Edge). r.1) b) (edge_in w s a)))
same_key (x ∷ w) s t once (inr a) (inr b) e = same_key w s t once.1 a b e

distinct_edges : (w : Walk) → AreDistinct (keys w) → ((s t : ℕ × Edge) → IsIn s w → IsIn t w → s.1 ≡ t.1 → s.0 ≡ t.0) → AreDistinct (edges_of w)
distinct_edges [] once same = tt
distinct_edges (x ∷ w) once same = (
  (λ m. let r = step_of_edge w x.1 m in once.0 (subst (λ k. IsIn k (keys w)) (sym (same x r.0 (inl refl) (inr r.1) r.2)) (key_of w r.0 r.1))),
  distinct_edges w once.1 (λ s t a b. same s t (inr a) (inr b)),
)
  where
    key_of : (v : Walk) (s : ℕ × Edge) → IsIn s v → IsIn s.0 (keys v)
    key_of [] s h = absurd h
    key_of (y ∷ v) s (inl e) = inl (ap (λ (t : ℕ × Edge). t.0) e)
    key_of (y ∷ v) s (inr h) = inr (key_of v s h)

-- ---- all walks, those of the nodes from i on

abbrev pub AreOf : ℕ → List Walk → Type 0
AreOf i ws = (j : ℕ) (s : ℕ × Edge) → IsIn s (walk_at ws j) → s.1.from.0 ≡ i + j

first_of_all : (i : ℕ) (w : Walk) (ws : List Walk) → AreOf i (w ∷ ws) → (s : ℕ × Edge) → IsIn s w → s.1.from.0 ≡ i
first_of_all i w ws of s m = let e = of 0 s m in omega arith

others_of : (i : ℕ) (w : Walk) (ws : List Walk) → AreOf i (w ∷ ws) → AreOf (suc i) ws
others_of i w ws of j s m = let e = of (suc j) s m in omega arith

-- a test that all connections of later nodes pass
all_later : (test : Edge → Bool) (n i : ℕ) (ws : List Walk) → n < i → ((e : Edge) → n < e.from.0 → test e ≡ true) → AreOf i ws → filter test (edges_in ws) ≡ edges_in ws
all_later test n i [] l later of = refl
all_later test n i (w ∷ ws) l later of =
    filter-append test (edges_of w) (edges_in ws)
    ∙ ap₂ (λ xs ys. xs ++ ys) (walk_all test w (λ s m. later s.1 (let e = first_of_all i w ws of s m in omega arith))) (all_later test n (suc i) ws (omega arith) later (others_of i w ws of))

no_later : (n i : ℕ) (ws : List Walk) → n < i → AreOf i ws → filter (leaves n) (edges_in ws) ≡ []
no_later n i [] l of = refl
no_later n i (w ∷ ws) l of =
    filter-append (leaves n) (edges_of w) (edges_in ws)
    ∙ ap₂ (λ xs ys. xs ++ ys) (filter_no (leaves n) w (λ s m. let e = first_of_all i w ws of s m in grind (arith, nat_tests))) (no_later n (suc i) ws (omega arith) (others_of i w ws of))

pub leaving : (i j : ℕ) (ws : List Walk) → AreOf i ws → filter (leaves (i + j)) (edges_in ws) ≡ edges_of (walk_at ws j)
leaving i j [] of = refl
leaving i zero (w ∷ ws) of =
    filter-append (leaves (i + 0)) (edges_of w) (edges_in ws)
    ∙ ap₂ (λ xs ys. xs ++ ys) (walk_all (leaves (i + 0)) w (λ s m. let e = first_of_all i w ws of s m in grind (arith, nat_tests))) (no_later (i + 0) (suc i) ws (omega arith) (others_of i w ws of))
    ∙ append-nil (edges_of w)
leaving i (suc j) (w ∷ ws) of =
    filter-append (leaves (i + suc j)) (edges_of w) (edges_in ws)
    ∙ ap₂ (λ xs ys. xs ++ ys) (filter_no (leaves (i + suc j)) w (λ s m. let e = first_of_all i w ws of s m in grind (arith, nat_tests)))
    (ap (λ n. filter (leaves n) (edges_in ws)) (let e : i + suc j ≡ suc i + j = omega arith in e) ∙ leaving (suc i) j ws (others_of i w ws of))

-- a test that the connections of all other nodes pass, on the walk of one node
pub kept : (test : Edge → Bool) (i j : ℕ) (ws : List Walk) → AreOf i ws → ((e : Edge) → (e.from.0 ≡ i + j → ⊥) → test e ≡ true)
    → edges_in (slice_set ws j (filter (λ (s : ℕ × Edge). test s.1) (walk_at ws j))) ≡ filter test (edges_in ws)
kept test i j [] of others = refl
kept test i zero (w ∷ ws) of others =
    ap₂ (λ xs ys. xs ++ ys) (sym (filter_edges test w)) (sym (all_later test i (suc i) ws (omega arith) (λ e l. others e (λ same. absurd (omega arith))) (others_of i w ws of)))
    ∙ sym (filter-append test (edges_of w) (edges_in ws))
kept test i (suc j) (w ∷ ws) of others =
    ap₂ (λ xs ys. xs ++ ys) (sym (walk_all test w (λ s m. let e = first_of_all i w ws of s m in others s.1 (λ same. absurd (omega arith)))))
    (kept test (suc i) j ws (others_of i w ws of) (λ e other. others e (λ same. other (omega arith))))
    ∙ sym (filter-append test (edges_of w) (edges_in ws))

put_on : (w : Walk) (es : List Edge) (e : Edge) → ((s : ℕ × Edge) → IsIn s w → s.1.from.0 ≤ e.from.0) → put (edges_of w ++ es) e ≡ edges_of w ++ put es e
put_on [] es e low = refl
put_on (s ∷ w) es e low =
    let l = low s (inl refl) in
    let t : nat_lt e.from.0 s.1.from.0 ≡ false = grind (arith, nat_tests) in
    ap (λ b. cond b (e ∷ s.1 ∷ edges_of w ++ es) (s.1 ∷ put (edges_of w ++ es) e)) t ∙ ap (λ xs. s.1 ∷ xs) (put_on w es e (λ r m. low r (inr m)))

put_first : (i : ℕ) (ws : List Walk) (e : Edge) → e.from.0 < i → AreOf i ws → put (edges_in ws) e ≡ e ∷ edges_in ws
put_first i [] e l of = refl
put_first i ([] ∷ ws) e l of = put_first (suc i) ws e (omega arith) (others_of i [] ws of)
put_first i ((s ∷ w) ∷ ws) e l of =
    let from = first_of_all i (s ∷ w) ws of s (inl refl) in
    let t : nat_lt e.from.0 s.1.from.0 ≡ true = grind (arith, nat_tests) in
    ap (λ b. cond b (e ∷ s.1 ∷ edges_of w ++ edges_in ws) (s.1 ∷ put (edges_of w ++ edges_in ws) e)) t

pub put_in : (i j : ℕ) (ws : List Walk) (key : ℕ) (e : Edge) → AreOf i ws → e.from.0 ≡ i + j → j < length ws → edges_in (slice_set ws j (walk_at ws j ++ (key, e) ∷ [])) ≡ put (edges_in ws) e
put_in i j [] key e of from l = absurd (omega arith)
put_in i zero (w ∷ ws) key e of from l =
    ap (λ xs. xs ++ edges_in ws) (map-append (λ (s : ℕ × Edge). s.1) w ((key, e) ∷ []))
    ∙ append_assoc (edges_of w) (e ∷ []) (edges_in ws)
    ∙ ap (λ xs. edges_of w ++ xs) (sym (put_first (suc i) ws e (omega arith) (others_of i w ws of)))
    ∙ sym (put_on w (edges_in ws) e (λ s m. let f = first_of_all i w ws of s m in omega arith))
put_in i (suc j) (w ∷ ws) key e of from l =
    ap (λ xs. edges_of w ++ xs) (put_in (suc i) j ws key e (others_of i w ws of) (omega arith) (omega arith))
    ∙ sym (put_on w (edges_in ws) e (λ s m. let f = first_of_all i w ws of s m in omega arith))

pub in_edges : (ws : List Walk) (i : ℕ) (s : ℕ × Edge) → IsIn s (walk_at ws i) → IsIn s.1 (edges_in ws)
in_edges [] i s m = absurd m
in_edges (w ∷ ws) zero s m = IsIn-append_first (edges_of w) (edges_in ws) s.1 (edge_in w s m)
in_edges (w ∷ ws) (suc i) s m = IsIn-append_second (edges_of w) (edges_in ws) s.1 (in_edges ws i s m)

pub walk_of_edge : (ws : List Walk) (e : Edge) → IsIn e (edges_in ws) → (i : ℕ) × (s : ℕ × Edge) × IsIn s (walk_at ws i) × (e ≡ s.1)
walk_of_edge [] e m = absurd m
walk_of_edge (w ∷ ws) e m = by_part (IsIn-append (edges_of w) (edges_in ws) e m) (walk_of_edge ws e)
  where
    by_part : (IsIn e (edges_of w) ⊎ IsIn e (edges_in ws)) → (IsIn e (edges_in ws) → (i : ℕ) × (s : ℕ × Edge) × IsIn s (walk_at ws i) × (e ≡ s.1))
        → (i : ℕ) × (s : ℕ × Edge) × IsIn s (walk_at (w ∷ ws) i) × (e ≡ s.1)
    by_part (inl h) below = let r = step_of_edge w e h in (0, r.0, r.1, r.2)
    by_part (inr h) below = let r = below h in (suc r.0, r.1, r.2, r.3)

-- ---- the walks of a graph

module _ (t : Threads) (threads : AreThreads t) where
  pub of_nodes : AreOf 0 t.outs
  of_nodes j s m = let e = threads.from j s m in omega arith

  pub edges_from : (node : ℕ) → filter (leaves node) (edges_in t.outs) ≡ edges_of (walk_at t.outs node)
  edges_from node = ap (λ n. filter (leaves n) (edges_in t.outs)) (let e : node ≡ 0 + node = omega arith in e) ∙ leaving 0 node t.outs of_nodes

  pub is_out_walk : (node : ℕ) → IsOutWalk (connections_of t) node (walk_at t.outs node)
  is_out_walk node = record { edges = sym (edges_from node); cells = threads.out_cells node }

  distinct_from : AreDistinct (edges_in t.outs) → (node : ℕ) → AreDistinct (edges_of (walk_at t.outs node))
  distinct_from once node = subst AreDistinct (edges_from node) (AreDistinct-filter (leaves node) (edges_in t.outs) once)

  entering : (node : ℕ) (e : Edge) → IsIn e (edges_of (walk_at t.ins node)) → IsIn e (filter (enters node) (edges_in t.outs))
  entering node e m =
      let r = step_of_edge (walk_at t.ins node) e m in
      let on = (threads.to node r.0).0 r.1 in
      subst (λ x. IsIn x (filter (enters node) (edges_in t.outs))) (sym r.2)
      (IsIn-filter_from (enters node) (edges_in t.outs) r.0.1 (in_edges t.outs r.0.1.from.0 r.0 on.1) (let same = on.0 in grind (arith, nat_tests)))

  entered : (node : ℕ) (e : Edge) → IsIn e (filter (enters node) (edges_in t.outs)) → IsIn e (edges_of (walk_at t.ins node))
  entered node e m =
      let k = IsIn-filter (enters node) (edges_in t.outs) e m in
      let r = walk_of_edge t.outs e k.0 in
      let to : target_node e.to ≡ node = let b = k.1 in grind (arith, nat_tests) in
      let on : IsIn r.1 (walk_at t.outs r.1.1.from.0) = subst (λ i. IsIn r.1 (walk_at t.outs i)) (sym (threads.from r.0 r.1 r.2)) r.2 in
      subst (λ x. IsIn x (edges_of (walk_at t.ins node))) (sym r.3)
      (edge_in (walk_at t.ins node) r.1 ((threads.to node r.1).1 (ap (λ (x : Edge). target_node x.to) (sym r.3) ∙ to, on)))

  pub is_in_walk : AreDistinct (edges_in t.outs) → (node : ℕ) → IsInWalk (connections_of t) node (walk_at t.ins node)
  is_in_walk once node = record {
    edges = λ e. (entering node e, entered node e);
    once = distinct_edges (walk_at t.ins node) (threads.in_cells node) (λ a b m n same.
        let x = (threads.to node a).0 m in
        let y = (threads.to node b).0 n in
        same_key (walk_at t.outs a.1.from.0) a b (distinct_from once a.1.from.0) x.1 (subst (λ i. IsIn b (walk_at t.outs i)) (ap (λ (e : Edge). e.from.0) (sym same)) y.1) same);
    cells = threads.in_cells node;
  }

-- ---- tests and numbers

any_on : {X : Type 0} (test : X → Bool) (xs ys : List X) → ((x : X) → IsIn x xs → IsIn x ys) → list_any test xs ≡ true → list_any test ys ≡ true
any_on test xs ys all h = let k = IsIn-list_any test xs h in list_any-IsIn test ys k.0 (all k.0 k.1) k.2

-- the same members pass
pub any_members : {X : Type 0} (test : X → Bool) (xs ys : List X) → ((x : X) → IsIn x xs → IsIn x ys) → ((x : X) → IsIn x ys → IsIn x xs) → list_any test xs ≡ list_any test ys
any_members test xs ys to from = by_test (list_any test xs) (list_any test ys) refl refl
  where
    by_test : (a b : Bool) → list_any test xs ≡ a → list_any test ys ≡ b → a ≡ b
    by_test true true p q = refl
    by_test true false p q = let k = any_on test xs ys to p in absurd cc
    by_test false true p q = let k = any_on test ys xs from q in absurd cc
    by_test false false p q = refl

pub fewer : {X : Type 0} (xs ys : List X) → AreDistinct xs → ((x : X) → IsIn x xs → IsIn x ys) → length xs ≤ length ys
fewer [] ys once all = omega arith
fewer {X} (x ∷ xs) ys once all =
    let m : IsIn x ys = all x (inl refl) in
    let rest : length xs ≤ length (without x ys m) = fewer xs (without x ys m) once.1 (λ y h. apart y h (IsIn-without x ys m y (all y (inr h)))) in
    let one = length-without x ys m in
    omega arith
  where
    apart : (y : X) → IsIn y xs → ((y ≡ x) ⊎ IsIn y (without x ys (all x (inl refl)))) → IsIn y (without x ys (all x (inl refl)))
    apart y h (inl same) = absurd (once.0 (subst (λ z. IsIn z xs) same h))
    apart y h (inr m) = m

-- what a disconnect from a node does not name, if it is of another node
pub unnamed_of_others : (from : ℕ) (form : Form) (e : Edge) → (e.from.0 ≡ from → ⊥) → not (is_named from form e) ≡ true
unnamed_of_others from form e other =
    let no : (e.from.0 == from) ≡ false = grind (arith, nat_tests) in
    ap (λ b. not (b && is_meant form e)) no
