use Rattle.conn_graph.proofs.MutingLaws.{writer_unmuted}
use Rattle.conn_graph.proofs.RankLaws.{legal_order}
use Rattle.conn_graph.proofs.muting_law.Goals as goal

pub returns : goal.returns
returns c g = (writer_unmuted g, legal_order g)
