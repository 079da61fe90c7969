use Rattle.std.proofs.Common.{length}
use Rattle.conn_graph.specs.Lists.{walk_at}
use Rattle.conn_graph.proofs.Going.{IsFinding}
use Rattle.conn_graph.proofs.walks.take_found.Given as goal

abbrev pub invariant-loop-key : goal.invariant-loop-key
invariant-loop-key l = IsFinding l.fn.lists l.lists l.fn.from.0 l.fn.form

abbrev pub decreases-loop-key : goal.decreases-loop-key
decreases-loop-key l = length (walk_at l.lists.outs l.fn.from.0)
