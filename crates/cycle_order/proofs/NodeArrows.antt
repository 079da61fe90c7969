-- Delays in a cycle, found among numbered nodes.
use Rattle.std.proofs.Common.{ℕ, ◌≡◌, ◌<◌, length, List, [], map, get_or, true, false, ◌&&◌, refl, sym, ◌∙◌, ap, arith, subst, eq-eqb}
use Rattle.std.specs.Prelude.{◌==◌}
use Rattle.std.specs.List.{filter, list_any, range_with_len}
use Rattle.std.proofs.lemmas.Bool.{eqb-true}
use Rattle.std.proofs.lemmas.List.{length-map, get_or-map}
use Rattle.std.proofs.lemmas.List.FromFn.{length-range_with_len, length-map-range_with_len, get_or-map-range_with_len}
use Rattle.wa_base.specs.declared.graph_names.NodeId.{NodeId}
use Rattle.law_base.specs.Members.{IsIn}
use Rattle.law_base.specs.Reaching.{reaches}
use Rattle.law_base.proofs.Members.{same_map, list_any-IsIn, IsIn-list_any, IsIn-filter, IsIn-filter_from}
use Rattle.law_base.proofs.Tests.{and_both, and_parts}
use Rattle.conn_graph.specs.declared.edges.Edge.{Edge}
use Rattle.conn_graph.specs.Edges.{target_node}
use Rattle.conn_graph.specs.Ends.{numbers_from, is_delay, connects, in_cycle}
use Rattle.conn_graph.specs.Graph.{Connections, IsGraph}
use Rattle.cycle_order.specs.Reach.{leads, vertices, reaches_itself, IsWithin, is_marked}
use Rattle.cycle_order.specs.Arrows.{edges_from, edge_lists, node_targets, node_arrows}
use Rattle.cycle_order.specs.Surveys.{node_id, delays_in_cycle, marked_delays, cycle_marks, TellCycles}
use Rattle.cycle_order.proofs.Lists.{IsIn-map, source_in, filter_agrees, IsIn-range, in_range, numbers_are}
use Rattle.cycle_order.proofs.Searching.{is_led_to, leads_to, source_within}
use Rattle.cycle_order.proofs.Renaming.{IsNaming, same_cycles, same_tests}

pub length-edge_lists : (g : Connections) → length (edge_lists g) ≡ length g.nodes
unfolding edge_lists
length-edge_lists g = length-map-range_with_len (edges_from g) 0 (length g.nodes)

pub get_or-edge_lists : (g : Connections) (i : ℕ) (d : List Edge) → i < length g.nodes → get_or (edge_lists g) i d ≡ edges_from g i
unfolding edge_lists
get_or-edge_lists g i d l = get_or-map-range_with_len (edges_from g) 0 (length g.nodes) i i d l (omega arith)

module _ (g : Connections) where
  pub length-node_arrows : length (node_arrows g) ≡ length g.nodes
  unfolding node_arrows
  length-node_arrows = length-map (edge_lists g) node_targets ∙ length-edge_lists g

  pub node_arrows_are : (lists : List (List Edge)) → lists ≡ edge_lists g → map node_targets lists ≡ node_arrows g
  unfolding node_arrows
  node_arrows_are lists e = ap (map node_targets) e

  targets_at : (i : ℕ) → i < length g.nodes → get_or (node_arrows g) i [] ≡ node_targets (edges_from g i)
  unfolding node_arrows
  targets_at i l = get_or-map node_targets (edge_lists g) i [] [] (subst (λ n. i < n) (sym (length-edge_lists g)) l) ∙ ap node_targets (get_or-edge_lists g i [] l)

  -- the connection that an arrow is
  connection : (a b : ℕ) → a < length g.nodes → leads (node_arrows g) a b ≡ true → (e : Edge) × IsIn e g.edges × (e.from.0 ≡ a) × (b ≡ target_node e.to)
  connection a b l h =
      let found = source_in (λ (e : Edge). target_node e.to) (edges_from g a) b (subst (λ xs. IsIn b xs) (targets_at a l) (is_led_to (node_arrows g) a b h)) in
      let parts = IsIn-filter (λ (e : Edge). e.from.0 == a) g.edges found.0 found.1 in
      (found.0, parts.0, eqb-true found.0.from.0 a parts.1, found.2)

  pub nodes_within : IsGraph g → IsWithin (node_arrows g)
  nodes_within whole a b h =
      let l : a < length g.nodes = subst (λ n. a < n) length-node_arrows (source_within (node_arrows g) a b h) in
      let k = connection a b l h in
      let below : target_node k.0.to < length g.nodes = (whole.places k.0 k.1).to in
      subst (λ n. b < n) (sym length-node_arrows) (subst (λ x. x < length g.nodes) (sym k.3) below)

  number_below : (i : ℕ) → IsIn i (numbers_from 0 g.nodes) → i < length g.nodes
  number_below i h = let l = in_range 0 (length g.nodes) i (subst (λ xs. IsIn i xs) (numbers_are 0 g.nodes) h) in omega arith

  below_number : (i : ℕ) → i < length g.nodes → IsIn i (numbers_from 0 g.nodes)
  below_number i l = subst (λ xs. IsIn i xs) (sym (numbers_are 0 g.nodes)) (IsIn-range 0 (length g.nodes) i (omega arith) (omega arith))

  naming : IsGraph g → IsNaming (connects g) (numbers_from 0 g.nodes) (λ i. i) (node_arrows g)
  naming whole = record {
    into = λ a b in_a in_b h.
        let found = IsIn-list_any (λ (e : Edge). e.from.0 == a && target_node e.to == b) g.edges h in
        let parts = and_parts (found.0.from.0 == a) (target_node found.0.to == b) found.2 in
        let is_target = IsIn-map (λ (e : Edge). target_node e.to) (edges_from g a) found.0 (IsIn-filter_from (λ (e : Edge). e.from.0 == a) g.edges found.0 found.1 parts.0) in
        leads_to (node_arrows g) a b (subst (λ xs. IsIn b xs) (sym (targets_at a (number_below a in_a))) (subst (λ x. IsIn x (node_targets (edges_from g a))) (eqb-true (target_node found.0.to) b parts.1) is_target));
    back = λ a v in_a h.
        let k = connection a v (number_below a in_a) h in
        let below : v < length g.nodes = subst (λ x. x < length g.nodes) (sym k.3) (whole.places k.0 k.1).to in
        (v, below_number v below, refl, list_any-IsIn (λ (e : Edge). e.from.0 == a && target_node e.to == v) g.edges k.0 k.1 (and_both _ _ (eq-eqb k.0.from.0 a k.2) (eq-eqb (target_node k.0.to) v (sym k.3))));
    there = λ a in_a. subst (λ n. a < n) (sym length-node_arrows) (number_below a in_a);
    apart = λ a b in_a in_b e. e;
  }

  cycle_marked : IsGraph g → (i : ℕ) → IsIn i (numbers_from 0 g.nodes) → in_cycle g i ≡ reaches_itself (node_arrows g) i
  unfolding in_cycle
  cycle_marked whole i h =
      ap (λ n. reaches (connects g) (numbers_from 0 g.nodes) n i i) (sym (ap length (numbers_are 0 g.nodes) ∙ length-range_with_len 0 (length g.nodes)))
      ∙ same_cycles (connects g) (numbers_from 0 g.nodes) (λ i. i) (node_arrows g) (naming whole) i h

  -- as many vertices as nodes
  pub marks_are : IsGraph g → map (reaches_itself (node_arrows g)) (vertices (node_arrows g)) ≡ cycle_marks g
  marks_are whole =
      ap (λ n. map (reaches_itself (node_arrows g)) (range_with_len 0 n)) length-node_arrows
      ∙ ap (map (reaches_itself (node_arrows g))) (sym (numbers_are 0 g.nodes))
      ∙ same_map (reaches_itself (node_arrows g)) (in_cycle g) (numbers_from 0 g.nodes) (λ i h. sym (cycle_marked whole i h))

  pub length-cycle_marks : length (cycle_marks g) ≡ length g.nodes
  length-cycle_marks = length-map (numbers_from 0 g.nodes) (in_cycle g) ∙ ap length (numbers_are 0 g.nodes) ∙ length-range_with_len 0 (length g.nodes)

  mark_at : (i : ℕ) → i < length g.nodes → is_marked (cycle_marks g) i ≡ in_cycle g i
  mark_at i l = ap (λ ns. is_marked (map (in_cycle g) ns) i) (numbers_are 0 g.nodes) ∙ get_or-map-range_with_len (in_cycle g) 0 (length g.nodes) i i false l (omega arith)

  pub cycle_marks_tell : TellCycles g (cycle_marks g)
  cycle_marks_tell = record { number = length-cycle_marks; delays = λ i l d. mark_at i l }

  -- the delays among the nodes that are on a cycle
  pub marked_delays_are : marked_delays g (cycle_marks g) ≡ delays_in_cycle g
  unfolding delays_in_cycle
  marked_delays_are = ap (map node_id) (filter_agrees _ _ (numbers_from 0 g.nodes) (λ i h. ap (λ b. is_delay g i && b) (mark_at i (number_below i h))))

  -- the list of delays in a cycle as a test
  pub is_listed : (i : ℕ) → i < length g.nodes → list_any (λ (n : NodeId). n.0 == i) (delays_in_cycle g) ≡ (is_delay g i && in_cycle g i)
  unfolding delays_in_cycle
  is_listed i l = same_tests _ _
      (λ h.
      let found = IsIn-list_any (λ (n : NodeId). n.0 == i) (map node_id (filter (λ k. is_delay g k && in_cycle g k) (numbers_from 0 g.nodes))) h in
      let source = source_in node_id (filter (λ k. is_delay g k && in_cycle g k) (numbers_from 0 g.nodes)) found.0 found.1 in
      let parts = IsIn-filter (λ k. is_delay g k && in_cycle g k) (numbers_from 0 g.nodes) source.0 source.1 in
      let same : source.0 ≡ i = sym (ap (λ (n : NodeId). n.0) source.2) ∙ eqb-true found.0.0 i found.2 in
      subst (λ k. (is_delay g k && in_cycle g k) ≡ true) same parts.1)
      (λ h. list_any-IsIn (λ (n : NodeId). n.0 == i) _ (node_id i) (IsIn-map node_id _ i (IsIn-filter_from _ (numbers_from 0 g.nodes) i (below_number i l) h)) (eq-eqb i i refl))
