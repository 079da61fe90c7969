use Rattle.std.proofs.Common.{◌+◌, ◌*◌, ◌-◌, ◌^◌, length}
use Rattle.derivations.specs.Tapes.{worlds}
use Rattle.explain_top.specs.Stacks.{IsDeriving}
use Rattle.explain_top.proofs.derivation.facts_for.Given as goal

abbrev pub invariant-loop-walk : goal.invariant-loop-walk
invariant-loop-walk l = IsDeriving l.quantum (worlds l.tape) l.fn.key l.known l.walks.items

abbrev pub decreases-loop-walk : goal.decreases-loop-walk
decreases-loop-walk l = 3 * 2 ^ 20 - (2 * length l.known + length l.walks.items)
