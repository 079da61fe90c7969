use Rattle.explain.proofs.Checkers.{checker}
use Rattle.explain.proofs.checker_law.Goals as goal

pub returns : goal.returns
returns c q some few tape regular facts = checker q some tape regular facts
