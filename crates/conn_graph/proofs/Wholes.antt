-- What every change of the lists makes of the graph, and what holds of every graph.
use Rattle.std.proofs.Common.{ℕ, ◌≡◌, ◌-◌, ◌^◌, ◌<◌, length, List, [], ◌∷◌, ◌++◌, slice_set, filter, false, not, None, Some, sym, ◌∙◌, ap, ap₂, subst, arith}
use Rattle.std.specs.Prelude.{if◌then◌else◌}
use Rattle.std.specs.List.{list_any}
use Rattle.std.proofs.lemmas.List.{length-map}
use Rattle.law_base.proofs.Members.{IsIn-filter}
use Rattle.conn_graph.specs.declared.edges.Edge.{Edge}
use Rattle.conn_graph.specs.declared.edges.Form.{Form}
use Rattle.conn_graph.specs.declared.edges.Ports.{Ports}
use Rattle.conn_graph.specs.Edges.{target_node, form_node, is_named}
use Rattle.conn_graph.specs.Cells.{leaves, enters}
use Rattle.conn_graph.specs.Graph.{Connections, IsGraph, with_node, with_edge, has_edge, connect_refusal, connected, disconnected}
use Rattle.conn_graph.specs.Walks.{IsInWalk}
use Rattle.conn_graph.specs.Lists.{edges_of, edges_in, walk_at, Threads, SameThreads, AreThreads, connections_of, IsWhole}
use Rattle.conn_graph.proofs.Puts.{put_is}
use Rattle.conn_graph.proofs.Graphs.{IsGraph-with_node, IsGraph-with_edge, IsGraph-filter, allowed, length-filter_low}
use Rattle.conn_graph.proofs.Leaving.{any_named, any_entering}
use Rattle.conn_graph.proofs.AllLists.{edges_more}
use Rattle.conn_graph.proofs.Joined.{of_nodes, edges_from, is_in_walk, put_in, kept, unnamed_of_others, any_members, fewer}

abbrev joined : List Ports → List Edge → Connections
joined nodes edges = record { nodes = nodes; edges = edges }

pub whole_kept : (old new : Threads) → SameThreads old new → IsWhole old → IsWhole new
whole_kept old new same h = subst IsWhole (sym same.0) (record {
  graph = h.graph;
  threads = record { outs = h.threads.outs; ins = h.threads.ins; from = h.threads.from; to = h.threads.to; out_cells = h.threads.out_cells; in_cells = h.threads.in_cells };
})

-- a graph that became another value
becomes : (new : Threads) (g : Connections) → connections_of new ≡ g → IsGraph g → AreThreads new → IsWhole new
becomes new g is graph threads = record { graph = subst IsGraph (sym is) graph; threads = threads }

module _ (old new : Threads) (h : IsWhole old) (threads : AreThreads new) where
  pub more_is : (p : Ports) → new.nodes ≡ old.nodes ++ p ∷ [] → new.outs ≡ old.outs ++ [] ∷ [] → connections_of new ≡ with_node (connections_of old) p
  more_is p nodes outs = ap₂ joined nodes (ap edges_in outs ∙ edges_more old.outs)

  pub whole_more : (p : Ports) → length old.nodes < 2 ^ 32 - 1 → new.nodes ≡ old.nodes ++ p ∷ [] → new.outs ≡ old.outs ++ [] ∷ [] → IsWhole new
  whole_more p few nodes outs = becomes new _ (more_is p nodes outs) (IsGraph-with_node (connections_of old) p h.graph few) threads

  with_edge_is : (e : Edge) → e.from.0 < length old.nodes → new.nodes ≡ old.nodes → ((key : ℕ) × (new.outs ≡ slice_set old.outs e.from.0 (walk_at old.outs e.from.0 ++ (key, e) ∷ [])))
      → connections_of new ≡ joined old.nodes (with_edge (edges_in old.outs) e)
  with_edge_is e from nodes outs = ap₂ joined nodes (
      ap edges_in outs.1
      ∙ put_in 0 e.from.0 old.outs outs.0 e (of_nodes old h.threads) (omega arith) (let l = h.threads.outs in omega arith)
      ∙ put_is 0 (edges_in old.outs) e h.graph.ordered)

  pub put_is_connected : (e : Edge) → e.from.0 < length old.nodes → has_edge (connections_of old) e ≡ false → new.nodes ≡ old.nodes
      → ((key : ℕ) × (new.outs ≡ slice_set old.outs e.from.0 (walk_at old.outs e.from.0 ++ (key, e) ∷ []))) → connections_of new ≡ connected (connections_of old) e
  put_is_connected e from fresh nodes outs = with_edge_is e from nodes outs ∙ sym (ap (λ b. if b then connections_of old else joined old.nodes (with_edge (edges_in old.outs) e)) fresh)

  pub whole_put : (e : Edge) → e.from.0 < length old.nodes → target_node e.to < length old.nodes → has_edge (connections_of old) e ≡ false → connect_refusal (connections_of old) e ≡ None → new.nodes ≡ old.nodes
      → ((key : ℕ) × (new.outs ≡ slice_set old.outs e.from.0 (walk_at old.outs e.from.0 ++ (key, e) ∷ []))) → IsWhole new
  whole_put e from to fresh none nodes outs =
      let free = allowed (connections_of old) e from to none in
      becomes new _ (with_edge_is e from nodes outs) (IsGraph-with_edge (connections_of old) e h.graph free.0 fresh (free.1 fresh)) threads

  pub taken_is : (from : ℕ) (form : Form) → new.nodes ≡ old.nodes → new.outs ≡ slice_set old.outs from (filter (λ step. not (is_named from form step.1)) (walk_at old.outs from)) → connections_of new ≡ disconnected (connections_of old) from form
  taken_is from form nodes outs = ap₂ joined nodes (
      ap edges_in outs
      ∙ kept (λ e. not (is_named from form e)) 0 from old.outs (of_nodes old h.threads) (λ e other. unnamed_of_others from form e (λ same. other (omega arith))))

  pub whole_taken : (from : ℕ) (form : Form) → new.nodes ≡ old.nodes → new.outs ≡ slice_set old.outs from (filter (λ step. not (is_named from form step.1)) (walk_at old.outs from)) → IsWhole new
  whole_taken from form nodes outs = becomes new _ (taken_is from form nodes outs) (IsGraph-filter (connections_of old) (λ e. not (is_named from form e)) h.graph) threads

-- ---- what is found on the walks

module _ (t : Threads) (h : IsWhole t) where
  pub named_on : (from : ℕ) (form : Form) → list_any (is_named from form) (edges_of (walk_at t.outs from)) ≡ list_any (is_named from form) (edges_in t.outs)
  named_on from form = ap (list_any (is_named from form)) (sym (edges_from t h.threads from)) ∙ any_named from form (edges_in t.outs)

  pub named_on_in : (from : ℕ) (form : Form) (node : ℕ) → form_node form ≡ Some node → list_any (is_named from form) (edges_of (walk_at t.ins node)) ≡ list_any (is_named from form) (edges_in t.outs)
  named_on_in from form node f =
      let walk : IsInWalk (connections_of t) node (walk_at t.ins node) = is_in_walk t h.threads h.graph.once node in
      any_members (is_named from form) (edges_of (walk_at t.ins node)) (filter (enters node) (edges_in t.outs)) (λ x. (walk.edges x).0) (λ x. (walk.edges x).1)
      ∙ any_entering from form node (edges_in t.outs) f

  -- no walk is longer than the graph has connections
  pub few_out : (node : ℕ) → length (walk_at t.outs node) < 2 ^ 32
  few_out node =
      let a = length-filter_low (leaves node) (edges_in t.outs) in
      let b = ap length (edges_from t h.threads node) in
      let c : length (edges_of (walk_at t.outs node)) ≡ length (walk_at t.outs node) = length-map (walk_at t.outs node) (λ s. s.1) in
      let d = h.graph.few in
      omega arith

  pub few_in : (node : ℕ) → length (walk_at t.ins node) < 2 ^ 32
  few_in node =
      let walk = is_in_walk t h.threads h.graph.once node in
      let a = fewer (edges_of (walk_at t.ins node)) (edges_in t.outs) walk.once (λ e m. (IsIn-filter (enters node) (edges_in t.outs) e ((walk.edges e).0 m)).0) in
      let c : length (edges_of (walk_at t.ins node)) ≡ length (walk_at t.ins node) = length-map (walk_at t.ins node) (λ s. s.1) in
      let d = h.graph.few in
      omega arith
