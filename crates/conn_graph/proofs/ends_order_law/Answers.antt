use Rattle.conn_graph.proofs.EndOrders.{AreAscending-ends, IsIn-ends}
use Rattle.conn_graph.proofs.ends_order_law.Goals as goal

pub returns : goal.returns
returns c g = (AreAscending-ends g, IsIn-ends g)
