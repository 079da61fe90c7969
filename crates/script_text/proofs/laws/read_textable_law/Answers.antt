use Rattle.script_text.proofs.Law.Nesting.{read_textable}
use Rattle.script_text.proofs.laws.read_textable_law.Goals as goal

pub returns : goal.returns
returns c = read_textable
