use Rattle.node_table.proofs.Sums.{silence}
use Rattle.node_table.proofs.laws.silence_law.Goals as goal

pub returns : goal.returns
returns c = silence
