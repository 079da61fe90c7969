use Rattle.std.proofs.Common.{◌≡◌, ◌<◌, ◌++◌, drop, length}
use Rattle.law_base.specs.Members.{IsIn}
use Rattle.conn_graph.specs.declared.edges.Edge.{Edge}
use Rattle.conn_graph.specs.Edges.{target_node}
use Rattle.cycle_order.specs.Arrows.{reader_targets}
use Rattle.cycle_order.proofs.arrows.append_reader_targets.Given as goal

abbrev pub invariant-loop-edge : goal.invariant-loop-edge
invariant-loop-edge l = record {
  within : (e : Edge) → IsIn e (drop l.edge-index l.edges) → target_node e.to < length l.graph.value.nodes;
  targets : l.targets.items ++ reader_targets l.graph.value (drop l.edge-index l.edges) ≡ l.fn.targets.items ++ reader_targets l.graph.value l.edges;
}
