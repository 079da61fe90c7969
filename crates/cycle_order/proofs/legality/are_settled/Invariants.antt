use Rattle.std.proofs.Common.{◌≡◌, drop}
use Rattle.std.specs.List.{list_all}
use Rattle.conn_graph.specs.Ends.{ends_from}
use Rattle.cycle_order.specs.Legality.{is_settled}
use Rattle.cycle_order.proofs.legality.are_settled.Given as goal

abbrev pub invariant-loop-i : goal.invariant-loop-i
invariant-loop-i l = list_all (is_settled l.muted l.placed) (ends_from l.i (drop l.i l.graph.value.nodes)) ≡ list_all (is_settled l.muted l.placed) (ends_from 0 l.graph.value.nodes)
