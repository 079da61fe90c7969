use Rattle.replay_top.proofs.Completeness.{rendered_where, where_rendered}
use Rattle.replay_top.proofs.completeness_law.Goals as goal

pub returns : goal.returns
returns c words bytes folder = (rendered_where words bytes folder, where_rendered words bytes folder)
