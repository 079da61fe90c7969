use Rattle.std.proofs.Common.{◌≡◌}
use Rattle.meaning.specs.Validity.{IsValid}
use Rattle.graph_tests.proofs.ties.connect_nodes.Given as goal

abbrev pub invariant-loop-from : goal.invariant-loop-from
invariant-loop-from l = IsValid l.world × (l.world.spec ≡ l.fn.world.spec)
