use Rattle.conn_graph.proofs.Joined.{is_out_walk}
use Rattle.conn_graph.proofs.graph.Graph.next_out.Goals as goal

pub returns-clause-walk : goal.returns-clause-walk
returns-clause-walk g c = rw (← c.self.view_is) (is_out_walk c.self.inside.lists c.self.invariant.threads c.args.node.0)
