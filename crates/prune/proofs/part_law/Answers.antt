use Rattle.prune.proofs.Tapes.{counts_agree, values_agree, params_agree, rows_agree}
use Rattle.prune.proofs.part_law.Goals as goal

pub returns : goal.returns
returns c q some few r part whole regular regular' are = (
  counts_agree q some r part whole regular regular' are,
  values_agree q some r part whole regular regular' are,
  params_agree q some r part whole regular regular' are,
  rows_agree q some r part whole regular regular' are,
)
