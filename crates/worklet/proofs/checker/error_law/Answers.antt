use Rattle.worklet.proofs.Refusals.{not_accepted}
use Rattle.worklet.proofs.checker.error_law.Goals as goal

pub returns : goal.returns
returns c = not_accepted
