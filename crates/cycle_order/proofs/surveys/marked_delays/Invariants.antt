use Rattle.std.proofs.Common.{◌≡◌, ◌++◌, ◌&&◌, map, filter, drop}
use Rattle.conn_graph.specs.Ends.{is_delay, numbers_from}
use Rattle.cycle_order.specs.Reach.{is_marked}
use Rattle.cycle_order.specs.Surveys.{node_id, marked_delays}
use Rattle.cycle_order.proofs.surveys.marked_delays.Given as goal

abbrev pub invariant-loop-i : goal.invariant-loop-i
invariant-loop-i l =
    l.ids ++ map node_id (filter (λ i. is_delay l.graph.value i && is_marked l.marks i) (numbers_from l.i (drop l.i l.graph.value.nodes)))
    ≡ marked_delays l.graph.value l.marks
