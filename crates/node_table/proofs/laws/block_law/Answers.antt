use Rattle.node_table.proofs.Lists.{heard-add}
use Rattle.node_table.proofs.laws.block_law.Goals as goal

pub returns : goal.returns
returns c = heard-add
