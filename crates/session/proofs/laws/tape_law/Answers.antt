use Rattle.session.proofs.Taping.{session_taped}
use Rattle.session.proofs.laws.tape_law.Goals as goal

pub returns : goal.returns
returns c = session_taped
