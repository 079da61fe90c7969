use Rattle.conn_graph.proofs.Wholes.{whole_kept}
use Rattle.conn_graph.proofs.graph.Graph.reserve.Goals as goal

pub invariant_of-self : goal.invariant_of-self
invariant_of-self c = whole_kept _ _ c.reserve.ensures.kept c.self.invariant
