use Rattle.std.proofs.Common.{◌≡◌, ◌++◌, length}
use Rattle.conn_graph.specs.Walks.{out_walk, IsOnWalk}
use Rattle.cycle_order.proofs.WalkLaws.{rest_of, steps_edges}
use Rattle.derivations.proofs.marks.append_from.Given as goal

-- the rest of the walk gives what is missing
abbrev pub invariant-loop-cell : goal.invariant-loop-cell
invariant-loop-cell g l = record {
  on_walk : IsOnWalk (out_walk l.graph l.node.0) l.after;
  edges : l.all.items ++ steps_edges (rest_of (out_walk l.graph l.node.0) l.after) ≡ l.fn.all.items ++ steps_edges (out_walk l.graph l.node.0);
}

abbrev pub decreases-loop-cell : goal.decreases-loop-cell
decreases-loop-cell g l = length (rest_of (out_walk l.graph l.node.0) l.after)
