use Rattle.std.proofs.lemmas.Result.{IfOk-weaker}
use Rattle.session.proofs.replay.run.Goals as goal

pub returns-clause-outcome : goal.returns-clause-outcome
returns-clause-outcome g c = IfOk-weaker c.run_observed.result _ _ (λ v found. (found.0, found.1, found.2)) c.run_observed.ensures.outcome
