use Rattle.prune_top.proofs.Nesting.{pruned_text}
use Rattle.prune_top.proofs.laws.pruned_text_law.Goals as goal

pub returns : goal.returns
returns c = pruned_text c.script_text_law.ensures c.read_textable_law.ensures
