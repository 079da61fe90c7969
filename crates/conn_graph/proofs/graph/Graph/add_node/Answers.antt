use Rattle.conn_graph.proofs.Wholes.{whole_kept, whole_more, more_is}
use Rattle.conn_graph.proofs.graph.Graph.add_node.Goals as goal

pub invariant_of-self : goal.invariant_of-self
invariant_of-self c = whole_kept _ _ c.in_err-add_node.ensures.err c.self.invariant

pub invariant_of-self-2 : goal.invariant_of-self-2
invariant_of-self-2 c =
    let few = rw (← c.self.view_is) at c.requires in
    whole_more c.self.inside.lists _ c.self.invariant c.in_ok-add_node.ensures.whole _ few c.in_ok-add_node.ensures.nodes c.in_ok-add_node.ensures.outs

pub returns-clause-ok : goal.returns-clause-ok
returns-clause-ok c = rw (← c.self.view_is) (more_is c.self.inside.lists _ c.self.invariant c.in_ok-add_node.ensures.whole _ c.in_ok-add_node.ensures.nodes c.in_ok-add_node.ensures.outs)
