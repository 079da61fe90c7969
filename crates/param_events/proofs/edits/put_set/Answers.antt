use Rattle.param_events.proofs.Puts.{set_may}
use Rattle.param_events.proofs.edits.put_set.Goals as goal

pub put-requires-clause-may : goal.put-requires-clause-may
put-requires-clause-may c = set_may _ _ _ c.requires.outside
