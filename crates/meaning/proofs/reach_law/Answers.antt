use Rattle.meaning.proofs.Asking.{reached}
use Rattle.meaning.proofs.reach_law.Goals as goal

pub returns : goal.returns
returns c q some few tape regular f n there delay = reached q some tape regular f n there delay
