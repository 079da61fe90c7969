use Rattle.std.proofs.Common.{◌≡◌, ◌-◌, ◌++◌, length}
use Rattle.std.specs.List.{flat_map, range_with_len}
use Rattle.cycle_order.specs.Arrows.{targets_of_node}
use Rattle.cycle_order.specs.Parts.{parts_of, AreBounds}
use Rattle.cycle_order.proofs.arrows.end_arrows.Given as goal

abbrev pub invariant-loop-i : goal.invariant-loop-i
invariant-loop-i l = record {
  bounds : AreBounds l.bounds.items (length l.targets.items);
  arrows : parts_of l.bounds.items l.targets.items ++ flat_map (targets_of_node l.graph.value) (range_with_len l.i (length l.graph.value.nodes - l.i))
      ≡ flat_map (targets_of_node l.graph.value) (range_with_len 0 (length l.graph.value.nodes));
}
