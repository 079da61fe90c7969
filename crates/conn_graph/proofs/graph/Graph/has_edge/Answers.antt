use Rattle.std.proofs.Common.{◌∙◌, ap}
use Rattle.std.specs.List.{list_any}
use Rattle.conn_graph.specs.Edges.{is_named}
use Rattle.conn_graph.proofs.Leaving.{any_same}
use Rattle.conn_graph.proofs.graph.Graph.has_edge.Goals as goal

pub returns : goal.returns
returns c = c.names_one.ensures ∙ ap (λ form. list_any (is_named c.args.edge.from.0 form) c.args.self.now.value.edges) c.form.ensures ∙ any_same c.args.edge c.args.self.now.value.edges
