use Rattle.meaning.proofs.Sounding.{slots_unheard}
use Rattle.meaning.proofs.Alike.{counts_alike, value_alike, param_alike}
use Rattle.meaning.proofs.slot_law.Goals as goal

pub returns : goal.returns
returns c = (slots_unheard, λ q some few tape tape' same. (counts_alike q tape tape' same, value_alike q some tape tape' same, param_alike q some tape tape' same))
