use Rattle.explain_top.proofs.Faulty.{not_checked}
use Rattle.explain_top.proofs.fault_law.Goals as goal

pub returns : goal.returns
returns c q some few tape regular text error other fault facts sized is = not_checked q some tape regular text facts sized is error other fault
