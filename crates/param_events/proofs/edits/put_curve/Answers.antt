use Rattle.param_events.proofs.Puts.{curve_may}
use Rattle.param_events.proofs.edits.put_curve.Goals as goal

pub put-requires-clause-may : goal.put-requires-clause-may
put-requires-clause-may c = curve_may _ _ _ _ c.requires.outside c.requires.empty c.requires.lasts c.requires.has_points
