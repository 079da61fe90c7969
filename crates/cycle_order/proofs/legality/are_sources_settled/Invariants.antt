use Rattle.std.proofs.Common.{◌≡◌, ◌≤◌, ◌+◌, length}
use Rattle.std.specs.List.{list_all}
use Rattle.conn_graph.specs.Walks.{in_walk, IsOnWalk}
use Rattle.cycle_order.specs.Legality.{source_settled}
use Rattle.cycle_order.proofs.WalkLaws.{rest_of, steps_edges}
use Rattle.cycle_order.proofs.legality.are_sources_settled.Given as goal

-- the rest of the walk decides
abbrev pub invariant-loop-cell : goal.invariant-loop-cell
invariant-loop-cell g l = record {
  on_walk : IsOnWalk (in_walk l.graph l.end.node.0) l.after;
  settled : list_all (source_settled l.graph.value l.muted l.placed l.end) (steps_edges (rest_of (in_walk l.graph l.end.node.0) l.after))
      ≡ list_all (source_settled l.graph.value l.muted l.placed l.end) (steps_edges (in_walk l.graph l.end.node.0));
  cost : l.steps + length (rest_of (in_walk l.graph l.end.node.0) l.after) ≤ l.fn.steps + length (in_walk l.graph l.end.node.0);
}

abbrev pub decreases-loop-cell : goal.decreases-loop-cell
decreases-loop-cell g l = length (rest_of (in_walk l.graph l.end.node.0) l.after)
