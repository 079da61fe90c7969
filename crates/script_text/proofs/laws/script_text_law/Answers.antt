use Rattle.script_text.proofs.Law.Script.{script_text_back}
use Rattle.script_text.proofs.laws.script_text_law.Goals as goal

pub returns : goal.returns
returns c = script_text_back
