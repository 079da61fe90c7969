use Rattle.conn_graph.proofs.OrderLaws.{legal_order_is}
use Rattle.conn_graph.proofs.legal_order_law.Goals as goal

pub returns : goal.returns
returns c g order = legal_order_is g order
