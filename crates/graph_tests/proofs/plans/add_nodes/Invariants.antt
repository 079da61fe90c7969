use Rattle.std.proofs.Common.{◌≡◌}
use Rattle.meaning.specs.Validity.{IsValid}
use Rattle.graph_tests.proofs.plans.add_nodes.Given as goal

abbrev pub invariant-loop : goal.invariant-loop
invariant-loop l = IsValid l.world × (l.world.spec ≡ l.fn.world.spec)
