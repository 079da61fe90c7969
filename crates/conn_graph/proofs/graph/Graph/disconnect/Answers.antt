use Rattle.conn_graph.proofs.Wholes.{whole_taken, taken_is}
use Rattle.conn_graph.proofs.graph.Graph.disconnect.Goals as goal

pub invariant_of-self : goal.invariant_of-self
invariant_of-self c = whole_taken c.self.inside.lists _ c.self.invariant c.take_named.ensures.whole c.args.from.0 c.args.form c.take_named.ensures.nodes c.take_named.ensures.outs

pub returns-clause-ok : goal.returns-clause-ok
returns-clause-ok c = rw (← c.self.view_is) (taken_is c.self.inside.lists _ c.self.invariant c.take_named.ensures.whole c.args.from.0 c.args.form c.take_named.ensures.nodes c.take_named.ensures.outs)

pub returns-clause-whole : goal.returns-clause-whole
returns-clause-whole c = (invariant_of-self c).graph
