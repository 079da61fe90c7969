use Rattle.meaning.proofs.Changing.{changed_grows}
use Rattle.meaning.proofs.change_law.Goals as goal

pub returns : goal.returns
returns c = changed_grows
