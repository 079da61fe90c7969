use Rattle.std.proofs.Common.{◌≡◌, ◌++◌, length, map, drop}
use Rattle.cycle_order.specs.Arrows.{node_targets}
use Rattle.cycle_order.specs.Parts.{parts_of, AreBounds}
use Rattle.cycle_order.proofs.arrows.node_arrows.Given as goal

abbrev pub invariant-loop-node : goal.invariant-loop-node
invariant-loop-node l = record {
  bounds : AreBounds l.bounds.items (length l.targets.items);
  arrows : parts_of l.bounds.items l.targets.items ++ map node_targets (drop l.node l.lists) ≡ map node_targets l.lists;
}
