use Rattle.std.proofs.Common.{◌≡◌, ◌++◌, drop}
use Rattle.cycle_order.specs.Arrows.{node_targets}
use Rattle.cycle_order.proofs.arrows.append_node_targets.Given as goal

abbrev pub invariant-loop-edge : goal.invariant-loop-edge
invariant-loop-edge l = l.targets.items ++ node_targets (drop l.edge-index l.edges) ≡ l.fn.targets.items ++ node_targets l.edges
