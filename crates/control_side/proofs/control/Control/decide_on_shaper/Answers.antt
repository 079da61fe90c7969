use Rattle.control_side.specs.Step.{decided}
use Rattle.control_side.proofs.control.Control.decide_on_shaper.Goals as goal

pub returns-in-SetCurve : goal.returns-in-SetCurve
unfolding decided
returns-in-SetCurve c = rw c.in-SetCurve.is c.set_curve.ensures
