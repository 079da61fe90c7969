use Rattle.conn_graph.proofs.Joined.{is_in_walk}
use Rattle.conn_graph.proofs.graph.Graph.next_in.Goals as goal

pub returns-clause-walk : goal.returns-clause-walk
returns-clause-walk g c = rw (← c.self.view_is) (is_in_walk c.self.inside.lists c.self.invariant.threads c.self.invariant.graph.once c.args.node.0)
