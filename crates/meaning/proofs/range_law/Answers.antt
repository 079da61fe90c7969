use Rattle.meaning.proofs.Ranges.{value_fix}
use Rattle.meaning.proofs.range_law.Goals as goal

pub returns : goal.returns
returns c q some few tape valid fixes f e o d = value_fix q some tape valid fixes f e o d
