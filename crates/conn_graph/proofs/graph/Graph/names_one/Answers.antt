use Rattle.std.proofs.Common.{◌≡◌, ◌∙◌, Some, ap, sym}
use Rattle.std.specs.Prelude.{option_map}
use Rattle.wa_base.specs.declared.graph_names.NodeId.{NodeId}
use Rattle.conn_graph.specs.Edges.{form_node}
use Rattle.conn_graph.proofs.Wholes.{named_on, named_on_in}
use Rattle.conn_graph.proofs.graph.Graph.names_one.Goals as goal

pub returns-in-Some : goal.returns-in-Some
returns-in-Some c =
    let to : form_node c.args.form ≡ Some c.in-Some.to.0 = sym c.node.ensures ∙ ap (option_map (λ (n : NodeId). n.0)) c.in-Some.is in
    rw (← c.self.view_is) (c.is_one_named.ensures ∙ named_on_in c.self.inside.lists c.self.invariant c.args.from.0 c.args.form c.in-Some.to.0 to)

pub returns-in_default : goal.returns-in_default
returns-in_default c = rw (← c.self.view_is) (c.is_one_named-in_default.ensures ∙ named_on c.self.inside.lists c.self.invariant c.args.from.0 c.args.form)
