use Rattle.std.proofs.Common.{◌≡◌}
use Rattle.std.specs.List.{flat_map, range_with_len}
use Rattle.std.specs.Prelude.{filter}
use Rattle.conn_graph.specs.Cells.{leaves}
use Rattle.derivations.proofs.marks.connections.Given as goal

abbrev pub invariant-loop-node : goal.invariant-loop-node
invariant-loop-node g l = l.all.items ≡ flat_map (λ node. filter (leaves node) l.graph.value.edges) (range_with_len 0 l.node)
