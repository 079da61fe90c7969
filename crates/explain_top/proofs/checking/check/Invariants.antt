use Rattle.std.proofs.Common.{length}
use Rattle.derivations.specs.Tapes.{worlds}
use Rattle.explain_top.proofs.Cuts.{IsChecking}
use Rattle.explain_top.proofs.checking.check.Given as goal

abbrev pub invariant-loop-rest : goal.invariant-loop-rest
invariant-loop-rest l = IsChecking l.quantum (worlds l.tape) l.fn.text l.known l.rest

abbrev pub decreases-loop-rest : goal.decreases-loop-rest
decreases-loop-rest l = length l.rest
