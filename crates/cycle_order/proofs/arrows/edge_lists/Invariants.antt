use Rattle.std.proofs.Common.{◌≡◌, ◌≤◌, ◌+◌, ◌-◌, length, map}
use Rattle.std.specs.List.{range_with_len}
use Rattle.cycle_order.specs.Arrows.{edges_from}
use Rattle.cycle_order.specs.Parts.{parts_of, AreBounds}
use Rattle.cycle_order.proofs.Sums.{leaving}
use Rattle.cycle_order.proofs.arrows.edge_lists.Given as goal

-- what is left to look at costs a step for each connection and one for each node
abbrev pub invariant-loop-node : goal.invariant-loop-node
invariant-loop-node g l = record {
  bounds : AreBounds l.bounds.items (length l.edges.items);
  lists : parts_of l.bounds.items l.edges.items ≡ map (edges_from l.graph.value) (range_with_len 0 l.node);
  cost : l.steps + leaving l.graph.value.edges l.node (length l.graph.value.nodes - l.node) + (length l.graph.value.nodes - l.node) ≤ l.fn.steps + length l.graph.value.edges + length l.graph.value.nodes;
}
