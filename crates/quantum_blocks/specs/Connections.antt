-- The connections to a node, and what a connection leads to.
use Rattle.std.specs.Prelude.{ℕ, ◌==◌, Bool, List, filter}
use Rattle.conn_graph.specs.declared.edges.Edge.{Edge}
use Rattle.conn_graph.specs.declared.edges.Target.{Target}
use Rattle.conn_graph.specs.declared.edges.Target.TheVariants.{Input}
use Rattle.conn_graph.specs.Edges.{same_target, target_node}
use Rattle.conn_graph.specs.Graph.{Connections}

abbrev pub leads_to : Target → Edge → Bool
leads_to target e = same_target target e.to

-- the connections that lead to a node
abbrev pub into : Connections → ℕ → List Edge
into g node = filter (λ e. target_node e.to == node) g.edges

-- stands where there is no connection
abbrev pub no_edge : Edge
no_edge = record { from = record { 0 = 0 }; output = 0; to = Input (record { 0 = 0 }) 0 }
