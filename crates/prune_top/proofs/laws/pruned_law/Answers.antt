use Rattle.prune_top.proofs.Sounding.{pruned_sounds}
use Rattle.prune_top.proofs.laws.pruned_law.Goals as goal

pub returns : goal.returns
returns c = pruned_sounds
