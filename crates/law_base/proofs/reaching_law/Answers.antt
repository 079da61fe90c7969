use Rattle.law_base.proofs.Reaching.{enough}
use Rattle.law_base.proofs.reaching_law.Goals as goal

pub returns : goal.returns
returns g c arrow ends n a b in_ends r = enough arrow ends n a b in_ends r
