use Rattle.std.proofs.Common.{◌≡◌, ◌≤◌, ◌+◌, ◌*◌, ◌⊎◌, Some, length}
use Rattle.quantum_render.specs.Plans.{IsPlanned, IsUnedited}
use Rattle.quantum_render.specs.Stands.{plan_of}
use Rattle.graph_tests.proofs.plans.prepare_often.Given as goal

abbrev pub invariant-loop : goal.invariant-loop
invariant-loop g l =
    (l.world.spec ≡ l.renderer.spec)
    × (IsUnedited l.renderer.planned l.world.graph → IsPlanned l.world.graph.value (plan_of l.renderer))
    × ((l.steps ≡ l.fn.steps)
    ⊎ ((l.renderer.planned ≡ Some l.world.graph.edits) × (l.steps ≤ l.fn.steps + 10 * (length l.world.graph.value.edges + length l.world.graph.value.nodes))))
