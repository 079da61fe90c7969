use Rattle.std.proofs.Common.{◌≡◌, ◌≤◌, ◌+◌, [], take, drop}
use Rattle.conn_graph.specs.Ends.{ends}
use Rattle.cycle_order.specs.Legality.{is_legal_from}
use Rattle.cycle_order.proofs.Looks.{left}
use Rattle.cycle_order.proofs.legality.is_legal.Given as goal

abbrev pub invariant-loop-i : goal.invariant-loop-i
invariant-loop-i g l = record {
  legal : is_legal_from l.graph.value l.marks.muted (take l.i l.ends) (drop l.i l.ends) ≡ is_legal_from l.graph.value l.marks.muted [] l.ends;
  cost : l.steps + left l.graph.value (take l.i l.ends) (ends l.graph.value) ≤ l.fn.steps + left l.graph.value [] (ends l.graph.value);
}
