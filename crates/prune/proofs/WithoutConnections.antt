-- A connection is made or taken away in a world and in the one without the nodes that are not kept.
use Rattle.std.proofs.Common.{ℕ, ◌≡◌, ◌<◌, ◌≤◌, List, [], ◌∷◌, ◌++◌, map, filter, cond, not, Bool, true, false, Option, Some, None, IfSome, ◌⊎◌, inl, inr, refl, sym, ◌∙◌, ap, ap₂, subst, arith}
use Rattle.std.specs.Prelude.{unwrap_or, ◌==◌, ◌&&◌, nat_le, nat_lt, if◌then◌else◌}
use Rattle.std.proofs.lemmas.Bool.Decides.{nat_tests}
use Rattle.std.proofs.lemmas.List.{map-append}
use Rattle.wa_base.specs.declared.graph_names.NodeId.{NodeId}
use Rattle.law_base.specs.Members.{IsIn}
use Rattle.law_base.proofs.Members.{IsIn-filter, IsIn-append}
use Rattle.law_base.proofs.Tests.{and_parts, and_both}
use Rattle.conn_graph.specs.declared.edges.Edge.{Edge}
use Rattle.conn_graph.specs.declared.edges.Form.{Form}
use Rattle.conn_graph.specs.declared.edges.Form.TheVariants as form
use Rattle.conn_graph.specs.declared.edges.Target.{Target}
use Rattle.conn_graph.specs.declared.edges.Target.TheVariants.{Input, Param as to_param}
use Rattle.conn_graph.specs.Edges.{target_node, same_name, is_input, is_an_input_of, same_target, same_edge, is_meant, is_named, form_node}
use Rattle.conn_graph.specs.Graph.{Connections, AreFrom, with_edge, has_edge, connected, disconnected}
use Rattle.conn_graph.specs.Walks.{GraphView}
use Rattle.conn_graph.proofs.EndLaws.{nat_same}
use Rattle.meaning.specs.declared.world.World.{World}
use Rattle.meaning.specs.World.{bare}
use Rattle.meaning.specs.Validity.{IsValid}
use Rattle.meaning.specs.Changes.{edited}
use Rattle.meaning.specs.declared.change.Edit.TheVariants as edit
use Rattle.prune.proofs.Flags.{Flags, is_kept, part_number, same_part, same_at_most, same_less}
use Rattle.prune.proofs.Members.{filter-map, same_filter, filter_within}
use Rattle.prune.proofs.Filtered.{kept_of, filter-append, filter_comm, filter_none, filter_all, any_named}
use Rattle.prune.proofs.Without.{part_target, part_edge, part_form, part_edit, is_kept_edge, edges_without, connections_without, IsWithout, IsLeftOut}
use Rattle.prune.proofs.WithoutFacts.{same_named_param}

-- ---- tests of connections between kept nodes

-- what passes in the part is what passes in the whole
pub filter_named : {X Y : Type 0} (p : X → Bool) (name : X → Y) (test : Y → Bool) (test' : X → Bool) (xs : List X) → ((x : X) → p x ≡ true → test (name x) ≡ test' x)
    → filter test (map name (filter p xs)) ≡ map name (filter p (filter test' xs))
filter_named p name test test' xs same =
    filter-map test name (filter p xs)
    ∙ ap (map name) (same_filter (λ x. test (name x)) test' (filter p xs) (λ x h. same x (IsIn-filter p xs x h).1) ∙ filter_comm test' p xs)

module _ (fs : Flags) where
  pub kept_ends : (e : Edge) → is_kept_edge fs e ≡ true → (is_kept fs e.from.0 ≡ true) × (is_kept fs (target_node e.to) ≡ true)
  kept_ends e kept = and_parts (is_kept fs e.from.0) (is_kept fs (target_node e.to)) kept

  input_named : (node : NodeId) (input : ℕ) (t : Target) → is_kept fs node.0 ≡ true → is_kept fs (target_node t) ≡ true → is_input (part_number fs node.0) input (part_target fs t) ≡ is_input node.0 input t
  input_named node input (Input other at) kept too = ap (λ b. b && at == input) (same_part fs other.0 node.0 too kept)
  input_named node input (to_param id) kept too = refl

  any_input_named : (node : NodeId) (t : Target) → is_kept fs node.0 ≡ true → is_kept fs (target_node t) ≡ true → is_an_input_of (part_number fs node.0) (part_target fs t) ≡ is_an_input_of node.0 t
  any_input_named node (Input other at) kept too = same_part fs other.0 node.0 too kept
  any_input_named node (to_param id) kept too = refl

  param_named : (t u : Target) → is_kept fs (target_node t) ≡ true → is_kept fs (target_node u) ≡ true → same_target (part_target fs t) (part_target fs u) ≡ same_target t u
  param_named (Input node input) u kept too = input_named node input u kept too
  param_named (to_param id) (Input other at) kept too = refl
  param_named (to_param id) (to_param other) kept too = same_named_param fs id kept other too

  edge_named : (e x : Edge) → is_kept_edge fs e ≡ true → is_kept_edge fs x ≡ true → same_edge (part_edge fs e) (part_edge fs x) ≡ same_edge e x
  edge_named e x kept too =
      let ends = kept_ends e kept in
      let others = kept_ends x too in
      ap₂ (λ a b. a && e.output == x.output && b) (same_part fs e.from.0 x.from.0 ends.0 others.0) (param_named e.to x.to ends.1 others.1)

  -- the same target is at the same node
  target_is : (t u : Target) → same_target t u ≡ true → target_node u ≡ target_node t
  target_is (Input node input) (Input other at) same = nat_same other.0 node.0 (and_parts (other.0 == node.0) (at == input) same).0
  target_is (Input node input) (to_param id) same = absurd cc
  target_is (to_param id) (Input other at) same = absurd cc
  target_is (to_param id) (to_param other) same = nat_same other.node.0 id.node.0 (and_parts (other.node.0 == id.node.0) (same_name other.name id.name) same).0

  -- an identical connection is kept too
  same_kept_edge : (e x : Edge) → is_kept_edge fs e ≡ true → same_edge e x ≡ true → is_kept_edge fs x ≡ true
  same_kept_edge e x kept same =
      let parts = and_parts (e.from.0 == x.from.0 && e.output == x.output) (same_target e.to x.to) same in
      let from = nat_same e.from.0 x.from.0 (and_parts (e.from.0 == x.from.0) (e.output == x.output) parts.0).0 in
      let ends = kept_ends e kept in
      and_both _ _ (subst (λ n. is_kept fs n ≡ true) from ends.0) (subst (λ n. is_kept fs n ≡ true) (sym (target_is e.to x.to parts.1)) ends.1)

  -- ---- a connection is made

  pub has_edge_named : (g : Connections) (e : Edge) → is_kept_edge fs e ≡ true → has_edge (connections_without fs g) (part_edge fs e) ≡ has_edge g e
  has_edge_named g e kept = any_named (is_kept_edge fs) (part_edge fs) (same_edge (part_edge fs e)) (same_edge e) g.edges (λ x h too. edge_named e x kept too) (λ x h same. same_kept_edge e x kept same)

  with_edge_named : (edges : List Edge) (e : Edge) → is_kept_edge fs e ≡ true → with_edge (edges_without fs edges) (part_edge fs e) ≡ edges_without fs (with_edge edges e)
  with_edge_named edges e kept =
      ap₂ (λ xs ys. xs ++ part_edge fs e ∷ ys)
      (filter_named (is_kept_edge fs) (part_edge fs) (λ x. nat_le x.from.0 (part_number fs e.from.0)) (λ x. nat_le x.from.0 e.from.0) edges (λ x too. same_at_most fs x.from.0 e.from.0 from))
      (filter_named (is_kept_edge fs) (part_edge fs) (λ x. nat_lt (part_number fs e.from.0) x.from.0) (λ x. nat_lt e.from.0 x.from.0) edges (λ x too. same_less fs e.from.0 x.from.0 from))
      ∙ sym (ap (map (part_edge fs)) (filter-append (is_kept_edge fs) before (e ∷ behind) ∙ ap (λ b. filter (is_kept_edge fs) before ++ cond b (e ∷ filter (is_kept_edge fs) behind) (filter (is_kept_edge fs) behind)) kept)
      ∙ map-append (part_edge fs) (filter (is_kept_edge fs) before) (e ∷ filter (is_kept_edge fs) behind))
    where
      from : is_kept fs e.from.0 ≡ true
      from = (kept_ends e kept).0

      before : List Edge
      before = filter (λ x. nat_le x.from.0 e.from.0) edges

      behind : List Edge
      behind = filter (λ x. nat_lt e.from.0 x.from.0) edges

  connected_named : (g : Connections) (e : Edge) → is_kept_edge fs e ≡ true → connected (connections_without fs g) (part_edge fs e) ≡ connections_without fs (connected g e)
  connected_named g e kept =
      ap (λ b. if b then connections_without fs g else record (connections_without fs g) { edges = with_edge (edges_without fs g.edges) (part_edge fs e) }) (has_edge_named g e kept)
      ∙ by_test (has_edge g e)
    where
      by_test : (b : Bool) → (if b then connections_without fs g else record (connections_without fs g) { edges = with_edge (edges_without fs g.edges) (part_edge fs e) })
          ≡ connections_without fs (if b then g else record g { edges = with_edge g.edges e })
      by_test true = refl
      by_test false = ap (λ es. let x : Connections = record { nodes = kept_of fs g.nodes; edges = es } in x) (with_edge_named g.edges e kept)

  -- the connections, and the new one
  with_edge_is : (edges : List Edge) (e x : Edge) → IsIn x (with_edge edges e) → IsIn x edges ⊎ (x ≡ e)
  with_edge_is edges e x h = elim (IsIn-append (filter (λ y. nat_le y.from.0 e.from.0) edges) _ x h) [
    | inl k ↦ inl (IsIn-filter (λ y. nat_le y.from.0 e.from.0) edges x k).0
    | inr k ↦ behind k
  ]
    where
      behind : (x ≡ e) ⊎ IsIn x (filter (λ y. nat_lt e.from.0 y.from.0) edges) → IsIn x edges ⊎ (x ≡ e)
      behind (inl same) = inr same
      behind (inr k) = inl (IsIn-filter (λ y. nat_lt e.from.0 y.from.0) edges x k).0

  connected_is : (g : Connections) (e x : Edge) → IsIn x (connected g e).edges → IsIn x g.edges ⊎ (x ≡ e)
  connected_is g e x h = by_test (has_edge g e) h
    where
      by_test : (b : Bool) → IsIn x (if b then g else record g { edges = with_edge g.edges e }).edges → IsIn x g.edges ⊎ (x ≡ e)
      by_test true k = inl k
      by_test false k = with_edge_is g.edges e x k

  -- ---- a connection to a node that is left out is made

  from_high : (low : ℕ) (edges : List Edge) → AreFrom low edges → (x : Edge) → IsIn x edges → low ≤ x.from.0
  from_high low [] are x h = absurd h
  from_high low (e ∷ es) are x (inl same) = let l = are.0 in let n : x.from.0 ≡ e.from.0 = ap (λ (y : Edge). y.from.0) same in omega (arith, l, n)
  from_high low (e ∷ es) are x (inr h) = let l = are.0 in let m = from_high e.from.0 es are.1 x h in omega (arith, l, m)

  -- connections in order are those up to a source, and then the others
  in_two : (low n : ℕ) (edges : List Edge) → AreFrom low edges → filter (λ x. nat_le x.from.0 n) edges ++ filter (λ x. nat_lt n x.from.0) edges ≡ edges
  in_two low n [] are = refl
  in_two low n (e ∷ es) are = by_test (nat_le e.from.0 n) refl (in_two e.from.0 n es are.1)
    where
      by_test : (b : Bool) → nat_le e.from.0 n ≡ b → filter (λ x. nat_le x.from.0 n) es ++ filter (λ x. nat_lt n x.from.0) es ≡ es
          → cond b (e ∷ filter (λ x. nat_le x.from.0 n) es) (filter (λ x. nat_le x.from.0 n) es) ++ cond (nat_lt n e.from.0) (e ∷ filter (λ x. nat_lt n x.from.0) es) (filter (λ x. nat_lt n x.from.0) es) ≡ e ∷ es
      by_test true is rest =
          let not_behind : nat_lt n e.from.0 ≡ false = grind (arith, nat_tests) in
          ap (λ b. e ∷ filter (λ x. nat_le x.from.0 n) es ++ cond b (e ∷ filter (λ x. nat_lt n x.from.0) es) (filter (λ x. nat_lt n x.from.0) es)) not_behind ∙ ap (λ xs. e ∷ xs) rest
      by_test false is rest =
          let behind : nat_lt n e.from.0 ≡ true = grind (arith, nat_tests) in
          let above : n < e.from.0 = grind (arith, nat_tests) in
          ap₂ (λ xs b. xs ++ cond b (e ∷ filter (λ x. nat_lt n x.from.0) es) (filter (λ x. nat_lt n x.from.0) es))
          (filter_none (λ x. nat_le x.from.0 n) es (λ x h. let l = from_high e.from.0 es are.1 x h in let high : n < x.from.0 = omega (arith, above, l) in grind (arith, nat_tests, high)))
          behind
          ∙ ap (λ xs. e ∷ xs) (filter_all (λ x. nat_lt n x.from.0) es (λ x h. let l = from_high e.from.0 es are.1 x h in let high : n < x.from.0 = omega (arith, above, l) in grind (arith, nat_tests, high)))

  connected_other : (g : Connections) (e : Edge) → AreFrom 0 g.edges → is_kept_edge fs e ≡ false → edges_without fs (connected g e).edges ≡ edges_without fs g.edges
  connected_other g e ordered other = by_test (has_edge g e)
    where
      before : List Edge
      before = filter (λ x. nat_le x.from.0 e.from.0) g.edges

      behind : List Edge
      behind = filter (λ x. nat_lt e.from.0 x.from.0) g.edges

      by_test : (b : Bool) → edges_without fs (if b then g else record g { edges = with_edge g.edges e }).edges ≡ edges_without fs g.edges
      by_test true = refl
      by_test false = ap (map (part_edge fs)) (
          filter-append (is_kept_edge fs) before (e ∷ behind)
          ∙ ap (λ b. filter (is_kept_edge fs) before ++ cond b (e ∷ filter (is_kept_edge fs) behind) (filter (is_kept_edge fs) behind)) other
          ∙ sym (filter-append (is_kept_edge fs) before behind)
          ∙ ap (filter (is_kept_edge fs)) (in_two 0 e.from.0 g.edges ordered)
          )

  -- ---- connections are taken away

  meant_named : (f : Form) (x : Edge) → IfSome (form_node f) (λ node. is_kept fs node ≡ true) → is_kept fs (target_node x.to) ≡ true → is_meant (part_form fs f) (part_edge fs x) ≡ is_meant f x
  meant_named form.All x kept too = refl
  meant_named (form.Output output) x kept too = refl
  meant_named (form.Node node) x kept too = any_input_named node x.to kept too
  meant_named (form.NodeOutput node output) x kept too = ap (λ b. x.output == output && b) (any_input_named node x.to kept too)
  meant_named (form.NodeOutputInput node output input) x kept too = ap (λ b. x.output == output && b) (input_named node input x.to kept too)
  meant_named (form.Param id) x kept too = param_named (to_param id) x.to kept too
  meant_named (form.ParamOutput id output) x kept too = ap (λ b. x.output == output && b) (param_named (to_param id) x.to kept too)

  pub is_named_named : (from : ℕ) (f : Form) (x : Edge) → is_kept fs from ≡ true → IfSome (form_node f) (λ node. is_kept fs node ≡ true) → is_kept_edge fs x ≡ true
      → is_named (part_number fs from) (part_form fs f) (part_edge fs x) ≡ is_named from f x
  is_named_named from f x source kept too =
      let ends = kept_ends x too in
      ap₂ (λ a b. a && b) (same_part fs x.from.0 from ends.0 source) (meant_named f x kept ends.1)

  -- what a form means leads to the node that it speaks of
  any_input_is : (n : ℕ) (t : Target) → is_an_input_of n t ≡ true → target_node t ≡ n
  any_input_is n (Input node input) is = nat_same node.0 n is
  any_input_is n (to_param id) is = absurd cc

  pub meant_is : (f : Form) (x : Edge) (n : ℕ) → form_node f ≡ Some n → is_meant f x ≡ true → Some (target_node x.to) ≡ Some n
  meant_is form.All x n node is = absurd cc
  meant_is (form.Output output) x n node is = absurd cc
  meant_is (form.Node to) x n node is = ap Some (any_input_is to.0 x.to is) ∙ node
  meant_is (form.NodeOutput to output) x n node is = ap Some (any_input_is to.0 x.to (and_parts (x.output == output) _ is).1) ∙ node
  meant_is (form.NodeOutputInput to output input) x n node is = ap Some (target_is (Input to input) x.to (and_parts (x.output == output) _ is).1) ∙ node
  meant_is (form.Param id) x n node is = ap Some (target_is (to_param id) x.to is) ∙ node
  meant_is (form.ParamOutput id output) x n node is = ap Some (target_is (to_param id) x.to (and_parts (x.output == output) _ is).1) ∙ node

  -- a kept connection is not one that leads to, or comes from, a node that is left out
  not_named : (from : ℕ) (f : Form) (x : Edge) → (is_kept fs from ≡ false) ⊎ IsLeftOut fs (form_node f) → is_kept_edge fs x ≡ true → not (is_named from f x) ≡ true
  not_named from f x other kept = by_test (is_named from f x) refl
    where
      left_out : (o : Option ℕ) → form_node f ≡ o → IsLeftOut fs o → is_meant f x ≡ true → ⊥
      left_out None node out is = out
      left_out (Some n) node out is =
          let same : target_node x.to ≡ n = ap (λ o. unwrap_or o n) (meant_is f x n node is) in
          let there : is_kept fs n ≡ true = subst (λ k. is_kept fs k ≡ true) same (kept_ends x kept).1 in
          cc

      never : (is_kept fs from ≡ false) ⊎ IsLeftOut fs (form_node f) → (x.from.0 == from) ≡ true → is_meant f x ≡ true → ⊥
      never (inl out) source is = let there : is_kept fs from ≡ true = subst (λ k. is_kept fs k ≡ true) (nat_same x.from.0 from source) (kept_ends x kept).0 in cc
      never (inr out) source is = left_out (form_node f) refl out is

      by_test : (b : Bool) → is_named from f x ≡ b → not b ≡ true
      by_test false is = refl
      by_test true is = absurd (let parts = and_parts (x.from.0 == from) (is_meant f x) is in never other parts.0 parts.1)

-- ---- worlds

module _ (fs : Flags) (part whole : World) (is : IsWithout fs part whole) (now : ℕ) where
  abbrev edges : List Edge
  edges = whole.graph.value.edges

  pub connect_heard : (e : Edge) → is_kept fs e.from.0 ≡ true → is_kept fs (target_node e.to) ≡ true → IsWithout fs (edited part now (part_edit fs (edit.Connect e))) (edited whole now (edit.Connect e))
  connect_heard e from to = record {
    first = is.first;
    spec = is.spec;
    nodes = is.nodes;
    graph = ap (λ (g : GraphView). bare (connected g.value (part_edge fs e))) is.graph ∙ ap bare (connected_named fs whole.graph.value e (and_both _ _ from to));
    params = is.params;
    scheds = is.scheds;
    store = is.store;
    closed = λ x h kept. elim (connected_is fs whole.graph.value e x h) [ inl there ↦ is.closed x there kept | inr new ↦ ap (λ (y : Edge). is_kept fs y.from.0) new ∙ from ];
  }

  pub connect_other : (e : Edge) → IsValid whole → is_kept fs (target_node e.to) ≡ false → IsWithout fs part (edited whole now (edit.Connect e))
  connect_other e valid other = record {
    first = is.first;
    spec = is.spec;
    nodes = is.nodes;
    graph =
        is.graph
        ∙ ap (λ es. bare (record { nodes = kept_of fs whole.graph.value.nodes; edges = es })) (sym (connected_other fs whole.graph.value e valid.graph.ordered (not_both (is_kept fs e.from.0) (is_kept fs (target_node e.to)) other)))
        ∙ ap (λ ns. bare (record { nodes = ns; edges = edges_without fs (connected whole.graph.value e).edges })) (same_nodes (has_edge whole.graph.value e));
    params = is.params;
    scheds = is.scheds;
    store = is.store;
    closed = λ x h kept. elim (connected_is fs whole.graph.value e x h) [
      | inl there ↦ is.closed x there kept
      | inr new ↦ absurd (let there : is_kept fs (target_node e.to) ≡ true = sym (ap (λ (y : Edge). is_kept fs (target_node y.to)) new) ∙ kept in cc)
    ];
  }
    where
      not_both : (a b : Bool) → b ≡ false → (a && b) ≡ false
      not_both true b e = e
      not_both false b e = refl

      same_nodes : (b : Bool) → kept_of fs whole.graph.value.nodes ≡ kept_of fs (if b then whole.graph.value else record whole.graph.value { edges = with_edge edges e }).nodes
      same_nodes true = refl
      same_nodes false = refl

  pub disconnect_heard : (from : NodeId) (f : Form) → is_kept fs from.0 ≡ true → IfSome (form_node f) (λ node. is_kept fs node ≡ true)
      → IsWithout fs (edited part now (part_edit fs (edit.Disconnect from f))) (edited whole now (edit.Disconnect from f))
  disconnect_heard from f source kept = record {
    first = is.first;
    spec = is.spec;
    nodes = is.nodes;
    graph =
        ap (λ (g : GraphView). bare (disconnected g.value (part_number fs from.0) (part_form fs f))) is.graph
        ∙ ap (λ es. bare (record { nodes = kept_of fs whole.graph.value.nodes; edges = es }))
        (filter_named (is_kept_edge fs) (part_edge fs) (λ x. not (is_named (part_number fs from.0) (part_form fs f) x)) (λ x. not (is_named from.0 f x)) edges (λ x too. ap not (is_named_named fs from.0 f x source kept too)));
    params = is.params;
    scheds = is.scheds;
    store = is.store;
    closed = λ x h k. is.closed x (IsIn-filter (λ x. not (is_named from.0 f x)) edges x h).0 k;
  }

  pub disconnect_other : (from : NodeId) (f : Form) → (is_kept fs from.0 ≡ false) ⊎ IsLeftOut fs (form_node f) → IsWithout fs part (edited whole now (edit.Disconnect from f))
  disconnect_other from f other = record {
    first = is.first;
    spec = is.spec;
    nodes = is.nodes;
    graph =
        is.graph
        ∙ ap (λ es. bare (record { nodes = kept_of fs whole.graph.value.nodes; edges = map (part_edge fs) es }))
        (sym (filter_within (is_kept_edge fs) (λ x. not (is_named from.0 f x)) edges (λ x h kept. not_named fs from.0 f x other kept)));
    params = is.params;
    scheds = is.scheds;
    store = is.store;
    closed = λ x h k. is.closed x (IsIn-filter (λ x. not (is_named from.0 f x)) edges x h).0 k;
  }
