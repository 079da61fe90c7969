use Rattle.control_side.proofs.EndedOrder.{ended_up}
use Rattle.control_side.proofs.laws.ended_law.Goals as goal

pub returns : goal.returns
returns c = ended_up
