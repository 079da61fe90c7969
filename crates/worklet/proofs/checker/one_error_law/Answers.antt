use Rattle.worklet.proofs.OneError.{one_error}
use Rattle.worklet.proofs.checker.one_error_law.Goals as goal

pub returns : goal.returns
returns c = one_error
