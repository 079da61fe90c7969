use Rattle.worklet.proofs.Deciding.{decided}
use Rattle.worklet.proofs.checker.accepted_law.Goals as goal

pub returns : goal.returns
returns c = decided
