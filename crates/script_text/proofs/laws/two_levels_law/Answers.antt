use Rattle.script_text.proofs.Law.Levels.{two_levels}
use Rattle.script_text.proofs.laws.two_levels_law.Goals as goal

pub returns : goal.returns
returns c = two_levels
