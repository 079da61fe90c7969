-- The connections of a graph by the node that they leave, and the graphs of numbered vertices that they make.
use Rattle.std.specs.Prelude.{ℕ, List, [], ◌∷◌, ◌+◌, ◌*◌, ◌==◌, ◌&&◌, not, Bool, length, map, filter, if◌then◌else◌}
use Rattle.std.specs.List.{flat_map, range_with_len}
use Rattle.wa_base.specs.declared.graph_names.End.{End}
use Rattle.conn_graph.specs.declared.edges.Edge.{Edge}
use Rattle.conn_graph.specs.Edges.{target_node}
use Rattle.conn_graph.specs.Ends.{reader_of, is_delay, arrives_at, in_cycle}
use Rattle.conn_graph.specs.Graph.{Connections}
use Rattle.cycle_order.specs.Reach.{leads}

-- for each node, a list that it gives
abbrev pub for_nodes : {X : Type 0} → Connections → (ℕ → X) → List X
for_nodes g f = map f (range_with_len 0 (length g.nodes))

-- the connections that leave a node
abbrev pub edges_from : Connections → ℕ → List Edge
edges_from g i = filter (λ e. e.from.0 == i) g.edges

unfoldable pub edge_lists : Connections → List (List Edge)
edge_lists g = for_nodes g (edges_from g)

-- ---- nodes as vertices: a connection leads from node to node

abbrev pub node_targets : List Edge → List ℕ
node_targets edges = map (λ e. target_node e.to) edges

unfoldable pub node_arrows : Connections → List (List ℕ)
node_arrows g = map node_targets (edge_lists g)

-- ---- ends as vertices: the writer of node i is vertex 2 * i, its reader is vertex 2 * i + 1

abbrev pub vertex_of : End → ℕ
vertex_of e = 2 * e.node.0 + (if e.writer then 0 else 1)

-- from the writer of a delay that is in no cycle an arrow leads to its reader
abbrev pub writer_targets : Connections → ℕ → List ℕ
writer_targets g i = if is_delay g i && not (in_cycle g i) then vertex_of (reader_of i) ∷ [] else []

-- from a reader its connections lead to where they arrive
abbrev pub reader_targets : Connections → List Edge → List ℕ
reader_targets g edges = map (λ e. vertex_of (arrives_at g e.to)) edges

abbrev pub targets_of_node : Connections → ℕ → List (List ℕ)
targets_of_node g i = writer_targets g i ∷ reader_targets g (edges_from g i) ∷ []

unfoldable pub end_arrows : Connections → List (List ℕ)
end_arrows g = flat_map (targets_of_node g) (range_with_len 0 (length g.nodes))

-- the arrows between ends, as those between their vertices
abbrev pub leads_to_end : List (List ℕ) → End → End → Bool
leads_to_end arrows d e = leads arrows (vertex_of d) (vertex_of e)
