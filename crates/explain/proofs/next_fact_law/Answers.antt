use Rattle.explain.proofs.Checkers.{next_fact}
use Rattle.explain.proofs.next_fact_law.Goals as goal

pub returns : goal.returns
returns c q some few tape regular facts fact = next_fact q some tape regular facts fact
