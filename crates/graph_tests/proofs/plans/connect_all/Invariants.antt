use Rattle.std.proofs.Common.{◌≡◌}
use Rattle.meaning.specs.Validity.{IsValid}
use Rattle.graph_tests.proofs.plans.connect_all.Given as goal

abbrev pub invariant-loop-number : goal.invariant-loop-number
invariant-loop-number l = IsValid l.world × (l.world.spec ≡ l.fn.world.spec)
