-- Which connections are those of a node, and which form names one.
use Rattle.std.specs.Prelude.{ℕ, Bool, ◌==◌}
use Rattle.conn_graph.specs.declared.edges.Edge.{Edge}
use Rattle.conn_graph.specs.declared.edges.Form.{Form}
use Rattle.conn_graph.specs.declared.edges.Form.TheVariants.{NodeOutputInput, ParamOutput}
use Rattle.conn_graph.specs.declared.edges.Target.{Target}
use Rattle.conn_graph.specs.declared.edges.Target.TheVariants.{Input, Param}
use Rattle.conn_graph.specs.Edges.{target_node}

abbrev pub leaves : ℕ → Edge → Bool
leaves node e = e.from.0 == node

abbrev pub enters : ℕ → Edge → Bool
enters node e = target_node e.to == node

-- the form of disconnect that names a connection alone
abbrev pub target_form : ℕ → Target → Form
target_form output (Input node input) = NodeOutputInput node output input
target_form output (Param param) = ParamOutput param output

abbrev pub edge_form : Edge → Form
edge_form e = target_form e.output e.to
