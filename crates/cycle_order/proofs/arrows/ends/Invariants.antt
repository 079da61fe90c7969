use Rattle.std.proofs.Common.{◌≡◌, ◌++◌, drop}
use Rattle.conn_graph.specs.Ends.{ends_from}
use Rattle.cycle_order.proofs.arrows.ends.Given as goal

abbrev pub invariant-loop-i : goal.invariant-loop-i
invariant-loop-i l = l.ends.items ++ ends_from l.i (drop l.i l.graph.value.nodes) ≡ ends_from 0 l.graph.value.nodes
