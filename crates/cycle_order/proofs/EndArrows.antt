-- Muted ends, found among numbered ends.
use Rattle.std.proofs.Common.{ℕ, zero, suc, ◌≡◌, ◌+◌, ◌*◌, ◌<◌, length, List, [], ◌∷◌, map, get_or, Bool, true, false, not, cond, ◌&&◌, inl, inr, refl, sym, ◌∙◌, ap, arith, subst, eq-eqb}
use Rattle.std.specs.Prelude.{◌==◌, if◌then◌else◌}
use Rattle.std.specs.List.{filter, flat_map, list_any, range_with_len}
use Rattle.std.proofs.lemmas.Bool.{eqb-true}
use Rattle.std.proofs.lemmas.List.FromFn.{get_or-map-range_with_len}
use Rattle.wa_base.specs.declared.graph_names.End.{End}
use Rattle.law_base.specs.Members.{IsIn}
use Rattle.law_base.proofs.Members.{list_any-IsIn, IsIn-list_any, IsIn-filter, IsIn-filter_from}
use Rattle.law_base.proofs.Tests.{or_cases, and_parts}
use Rattle.conn_graph.specs.declared.edges.Edge.{Edge}
use Rattle.conn_graph.specs.declared.edges.Target.{Target}
use Rattle.conn_graph.specs.declared.edges.Target.TheVariants.{Input, Param}
use Rattle.conn_graph.specs.Edges.{target_node}
use Rattle.conn_graph.specs.Ends.{writer_of, reader_of, same_end, ends, is_delay, arrives_at, in_cycle, arrow, height, muted}
use Rattle.conn_graph.specs.Graph.{Connections, IsGraph}
use Rattle.conn_graph.proofs.EndLaws.{end_is, has_end, has_writer, same_end-refl, same_end_is, edge_arrow, writer_arrow}
use Rattle.cycle_order.specs.Reach.{leads, vertices, reaches_itself, IsWithin, is_marked}
use Rattle.cycle_order.specs.Arrows.{edges_from, vertex_of, writer_targets, reader_targets, targets_of_node, end_arrows}
use Rattle.cycle_order.specs.Surveys.{muted_ends, marked_ends}
use Rattle.cycle_order.proofs.Lists.{IsIn-get_or, IsIn-map, source_in, IsIn-flat_map, filter_agrees, in_range}
use Rattle.cycle_order.proofs.Searching.{is_led_to, leads_to, source_within}
use Rattle.cycle_order.proofs.Renaming.{IsNaming, same_cycles, same_tests}

module _ (f h : ℕ → List ℕ) where
  abbrev pairs : ℕ → ℕ → List (List ℕ)
  pairs a n = flat_map (λ i. f i ∷ h i ∷ []) (range_with_len a n)

  length-pairs : (a n : ℕ) → length (pairs a n) ≡ 2 * n
  length-pairs a zero = refl
  length-pairs a (suc n) = let e = length-pairs (a + 1) n in omega arith

  first_at : (a n k : ℕ) → k < n → get_or (pairs a n) (2 * k) [] ≡ f (a + k)
  first_at a zero k l = absurd (omega arith)
  first_at a (suc n) zero l = ap f (omega arith)
  first_at a (suc n) (suc k) l =
      let e : 2 * suc k ≡ suc (suc (2 * k)) = omega arith in
      ap (λ j. get_or (pairs a (suc n)) j []) e ∙ first_at (a + 1) n k (omega arith) ∙ ap f (omega arith)

  second_at : (a n k : ℕ) → k < n → get_or (pairs a n) (2 * k + 1) [] ≡ h (a + k)
  second_at a zero k l = absurd (omega arith)
  second_at a (suc n) zero l = ap h (omega arith)
  second_at a (suc n) (suc k) l =
      let e : 2 * suc k + 1 ≡ suc (suc (2 * k + 1)) = omega arith in
      ap (λ j. get_or (pairs a (suc n)) j []) e ∙ second_at (a + 1) n k (omega arith) ∙ ap h (omega arith)

vertex_number : (e : End) → (b : Bool) → e.writer ≡ b → vertex_of e ≡ 2 * e.node.0 + cond b 0 1
vertex_number e b w = ap (λ t. 2 * e.node.0 + cond t 0 1) w

pub same_parts : (a b : End) → a.node.0 ≡ b.node.0 → a.writer ≡ b.writer → a ≡ b
same_parts a b node writer =
    ap (λ n. let x : End = record { node = record { 0 = n }; writer = a.writer } in x) node ∙ ap (λ t. let x : End = record { node = b.node; writer = t } in x) writer

pub vertices_apart : (a b : End) → vertex_of a ≡ vertex_of b → a ≡ b
vertices_apart a b e = by_kinds a.writer b.writer refl refl
  where
    by_kinds : (s t : Bool) → a.writer ≡ s → b.writer ≡ t → a ≡ b
    by_kinds true true v w = same_parts a b (let k = vertex_number a true v in let l = vertex_number b true w in omega arith) (v ∙ sym w)
    by_kinds false false v w = same_parts a b (let k = vertex_number a false v in let l = vertex_number b false w in omega arith) (v ∙ sym w)
    by_kinds true false v w = let k = vertex_number a true v in let l = vertex_number b false w in absurd (omega arith)
    by_kinds false true v w = let k = vertex_number a false v in let l = vertex_number b true w in absurd (omega arith)

module _ (g : Connections) where
  pub length-end_arrows : length (end_arrows g) ≡ 2 * length g.nodes
  unfolding end_arrows
  length-end_arrows = length-pairs (writer_targets g) (λ i. reader_targets g (edges_from g i)) 0 (length g.nodes)

  -- where the arrows of an end lead
  abbrev targets_of : End → List ℕ
  targets_of e = if e.writer then writer_targets g e.node.0 else reader_targets g (edges_from g e.node.0)

  targets_at : (e : End) → e.node.0 < length g.nodes → get_or (end_arrows g) (vertex_of e) [] ≡ targets_of e
  unfolding end_arrows
  targets_at e l = by_kind e.writer
    where
      by_kind : (b : Bool) → get_or (flat_map (targets_of_node g) (range_with_len 0 (length g.nodes))) (2 * e.node.0 + cond b 0 1) []
          ≡ cond b (writer_targets g e.node.0) (reader_targets g (edges_from g e.node.0))
      by_kind true =
          ap (λ j. get_or (flat_map (targets_of_node g) (range_with_len 0 (length g.nodes))) j []) (let e : 2 * e.node.0 + 0 ≡ 2 * e.node.0 = omega arith in e)
          ∙ first_at (writer_targets g) (λ i. reader_targets g (edges_from g i)) 0 (length g.nodes) e.node.0 l ∙ ap (writer_targets g) (omega arith)
      by_kind false =
          second_at (writer_targets g) (λ i. reader_targets g (edges_from g i)) 0 (length g.nodes) e.node.0 l
          ∙ ap (λ i. reader_targets g (edges_from g i)) (omega arith)

  pub vertex_below : (e : End) → e.node.0 < length g.nodes → vertex_of e < length (end_arrows g)
  vertex_below e l = subst (λ n. vertex_of e < n) (sym length-end_arrows) (by_kind e.writer)
    where
      by_kind : (b : Bool) → 2 * e.node.0 + cond b 0 1 < 2 * length g.nodes
      by_kind true = omega arith
      by_kind false = omega arith

  -- a connection arrives at an end of the node that it leads to
  pub arrives_at_node : (t : Target) → (arrives_at g t).node.0 ≡ target_node t
  arrives_at_node (Input node input) = refl
  arrives_at_node (Param param) = refl

  pub arrives_within : (t : Target) → target_node t < length g.nodes → IsIn (arrives_at g t) (ends g)
  arrives_within (Input node input) l = by_kind (is_delay g node.0) refl
    where
      by_kind : (b : Bool) → is_delay g node.0 ≡ b → IsIn (let e : End = record { node = record { 0 = node.0 }; writer = is_delay g node.0 } in e) (ends g)
      by_kind true d = subst (λ b. IsIn (let e : End = record { node = record { 0 = node.0 }; writer = b } in e) (ends g)) (sym d) (has_writer g node.0 d)
      by_kind false d = subst (λ b. IsIn (let e : End = record { node = record { 0 = node.0 }; writer = b } in e) (ends g)) (sym d) (has_end g node.0 l)
  arrives_within (Param param) l = has_end g param.node.0 l

  writer_target : (i v : ℕ) → IsIn v (writer_targets g i) → (is_delay g i ≡ true) × (in_cycle g i ≡ false) × (v ≡ vertex_of (reader_of i))
  writer_target i v h = by_kinds (is_delay g i) (in_cycle g i) refl refl h
    where
      by_kinds : (d c : Bool) → is_delay g i ≡ d → in_cycle g i ≡ c → IsIn v (if d && not c then vertex_of (reader_of i) ∷ [] else [])
          → (is_delay g i ≡ true) × (in_cycle g i ≡ false) × (v ≡ vertex_of (reader_of i))
      by_kinds true false d c (inl e) = (d, c, e)
      by_kinds true false d c (inr h) = absurd h
      by_kinds true true d c h = absurd h
      by_kinds false c d' c' h = absurd h

  has_writer_target : (i : ℕ) → is_delay g i ≡ true → in_cycle g i ≡ false → IsIn (vertex_of (reader_of i)) (writer_targets g i)
  has_writer_target i d c = by_kinds (is_delay g i) (in_cycle g i) d c
    where
      by_kinds : (s t : Bool) → s ≡ true → t ≡ false → IsIn (vertex_of (reader_of i)) (if s && not t then vertex_of (reader_of i) ∷ [] else [])
      by_kinds true false d c = inl refl
      by_kinds true true d c = absurd cc
      by_kinds false t d c = absurd cc

  -- the connection that an arrow from a reader is
  connection : (i v : ℕ) → IsIn v (reader_targets g (edges_from g i)) → (e : Edge) × IsIn e g.edges × (e.from.0 ≡ i) × (v ≡ vertex_of (arrives_at g e.to))
  connection i v h =
      let found = source_in (λ (e : Edge). vertex_of (arrives_at g e.to)) (edges_from g i) v h in
      let parts = IsIn-filter (λ (e : Edge). e.from.0 == i) g.edges found.0 found.1 in
      (found.0, parts.0, eqb-true found.0.from.0 i parts.1, found.2)

  into : (a b : End) → IsIn a (ends g) → arrow g a b ≡ true → IsIn (vertex_of b) (targets_of a)
  unfolding arrow
  into a b in_a h = elim (or_cases _ _ h) [
    | inl t ↦
        let found : (e : Edge) × IsIn e g.edges × ((same_end (reader_of e.from.0) a && same_end (arrives_at g e.to) b) ≡ true) = IsIn-list_any _ g.edges t in
        let parts = and_parts (same_end (reader_of found.0.from.0) a) (same_end (arrives_at g found.0.to) b) found.2 in
        let source = same_end_is (reader_of found.0.from.0) a parts.0 in
        let target = same_end_is (arrives_at g found.0.to) b parts.1 in
        let is_target = IsIn-map (λ (e : Edge). vertex_of (arrives_at g e.to)) (edges_from g found.0.from.0) found.0
        (IsIn-filter_from (λ (e : Edge). e.from.0 == found.0.from.0) g.edges found.0 found.1 (eq-eqb found.0.from.0 found.0.from.0 refl)) in
        subst (λ x. IsIn (vertex_of b) (targets_of x)) source (subst (λ x. IsIn (vertex_of x) (reader_targets g (edges_from g found.0.from.0))) target is_target)
    | inr t ↦
        let four = and_parts (a.writer && not b.writer && a.node.0 == b.node.0 && is_delay g a.node.0) (not (in_cycle g a.node.0)) t in
        let three = and_parts (a.writer && not b.writer && a.node.0 == b.node.0) (is_delay g a.node.0) four.0 in
        let two = and_parts (a.writer && not b.writer) (a.node.0 == b.node.0) three.0 in
        let one = and_parts a.writer (not b.writer) two.0 in
        let source : writer_of a.node.0 ≡ a = same_parts (writer_of a.node.0) a refl (sym one.0) in
        let target : reader_of a.node.0 ≡ b = same_parts (reader_of a.node.0) b (eqb-true a.node.0 b.node.0 two.1) (sym (not_is b.writer one.1)) in
        subst (λ x. IsIn (vertex_of b) (targets_of x)) source (subst (λ x. IsIn (vertex_of x) (writer_targets g a.node.0)) target (has_writer_target a.node.0 three.1 (not_is (in_cycle g a.node.0) four.1)))
  ]
    where
      not_is : (b : Bool) → not b ≡ true → b ≡ false
      not_is true h = sym h
      not_is false h = refl

  back : IsGraph g → (a : End) (v : ℕ) → IsIn a (ends g) → IsIn v (targets_of a) → (b : End) × IsIn b (ends g) × (vertex_of b ≡ v) × (arrow g a b ≡ true)
  back whole a v in_a h = by_kind a.writer refl h
    where
      by_kind : (w : Bool) → a.writer ≡ w → IsIn v (if w then writer_targets g a.node.0 else reader_targets g (edges_from g a.node.0))
          → (b : End) × IsIn b (ends g) × (vertex_of b ≡ v) × (arrow g a b ≡ true)
      by_kind true w h =
          let k = writer_target a.node.0 v h in
          let source : writer_of a.node.0 ≡ a = same_parts (writer_of a.node.0) a refl (sym w) in
          (reader_of a.node.0, has_end g a.node.0 (end_is g a in_a).0, sym k.2, subst (λ x. arrow g x (reader_of a.node.0) ≡ true) source (writer_arrow g a.node.0 k.0 k.1))
      by_kind false w h =
          let k = connection a.node.0 v h in
          let source : reader_of k.0.from.0 ≡ a = same_parts (reader_of k.0.from.0) a k.2 (sym w) in
          (arrives_at g k.0.to, arrives_within k.0.to (whole.places k.0 k.1).to, sym k.3, subst (λ x. arrow g x (arrives_at g k.0.to) ≡ true) source (edge_arrow g k.0 k.1))

  pub end_naming : IsGraph g → IsNaming (arrow g) (ends g) vertex_of (end_arrows g)
  end_naming whole = record {
    into = λ a b in_a in_b h. leads_to (end_arrows g) (vertex_of a) (vertex_of b) (subst (λ xs. IsIn (vertex_of b) xs) (sym (targets_at a (end_is g a in_a).0)) (into a b in_a h));
    back = λ a v in_a h. back whole a v in_a (subst (λ xs. IsIn v xs) (targets_at a (end_is g a in_a).0) (is_led_to (end_arrows g) (vertex_of a) v h));
    there = λ a in_a. vertex_below a (end_is g a in_a).0;
    apart = λ a b in_a in_b e. vertices_apart a b e;
  }

  pub ends_within : IsGraph g → IsWithin (end_arrows g)
  unfolding end_arrows
  ends_within whole a b h =
      let l : a < length (end_arrows g) = source_within (end_arrows g) a b h in
      let of_node = IsIn-flat_map (targets_of_node g) (range_with_len 0 (length g.nodes)) (get_or (end_arrows g) a []) (IsIn-get_or (end_arrows g) a [] l) in
      let i = of_node.0 in
      let below : i < length g.nodes = let k = in_range 0 (length g.nodes) i of_node.1 in omega arith in
      let b_in = is_led_to (end_arrows g) a b h in
      elim of_node.2 [
        | inl e ↦ writer_within i below (writer_target i b (subst (λ xs. IsIn b xs) e b_in)).2
        | inr k ↦ elim k [
          | inl e ↦
              let c = connection i b (subst (λ xs. IsIn b xs) e b_in) in
              let to : (arrives_at g c.0.to).node.0 < length g.nodes = subst (λ n. n < length g.nodes) (sym (arrives_at_node c.0.to)) (whole.places c.0 c.1).to in
              subst (λ v. v < length (end_arrows g)) (sym c.3) (vertex_below (arrives_at g c.0.to) to)
          | inr k ↦ absurd k
        ]
      ]
    where
      writer_within : (i : ℕ) → i < length g.nodes → b ≡ vertex_of (reader_of i) → b < length (end_arrows g)
      writer_within i below e = subst (λ v. v < length (end_arrows g)) (sym e) (vertex_below (reader_of i) below)

  -- the ends whose vertices are marked are the muted ones
  pub marked_ends_are : IsGraph g → (marks : List Bool) → marks ≡ map (reaches_itself (end_arrows g)) (vertices (end_arrows g)) → marked_ends marks (ends g) ≡ muted_ends g
  unfolding muted_ends muted height
  marked_ends_are whole marks e = filter_agrees _ _ (ends g) (λ x h.
      let l : vertex_of x < length (end_arrows g) = vertex_below x (end_is g x h).0 in
      let mark : is_marked marks (vertex_of x) ≡ reaches_itself (end_arrows g) (vertex_of x) =
      ap (λ ms. is_marked ms (vertex_of x)) e ∙ get_or-map-range_with_len (reaches_itself (end_arrows g)) 0 (length (end_arrows g)) (vertex_of x) (vertex_of x) false l (omega arith) in
      mark ∙ sym (same_cycles (arrow g) (ends g) vertex_of (end_arrows g) (end_naming whole) x h))

  pub arrows_agree : IsGraph g → (a b : End) → IsIn a (ends g) → IsIn b (ends g) → leads (end_arrows g) (vertex_of a) (vertex_of b) ≡ arrow g a b
  arrows_agree whole a b in_a in_b = same_tests _ _
      (λ h. let k = (end_naming whole).back a (vertex_of b) in_a h in subst (λ x. arrow g a x ≡ true) (vertices_apart k.0 b k.2) k.3)
      (λ h. (end_naming whole).into a b in_a in_b h)

  -- the list of muted ends as a test
  pub is_listed : (x : End) → IsIn x (ends g) → list_any (λ y. same_end y x) (muted_ends g) ≡ muted g x
  unfolding muted_ends
  is_listed x in_x = same_tests _ _
      (λ h. let k = IsIn-list_any (λ y. same_end y x) (filter (muted g) (ends g)) h in subst (λ y. muted g y ≡ true) (same_end_is k.0 x k.2) (IsIn-filter (muted g) (ends g) k.0 k.1).1)
      (λ h. list_any-IsIn (λ y. same_end y x) (filter (muted g) (ends g)) x (IsIn-filter_from (muted g) (ends g) x in_x h) (same_end-refl x))
