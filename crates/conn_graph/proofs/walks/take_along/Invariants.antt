use Rattle.std.proofs.Common.{◌≡◌, length}
use Rattle.conn_graph.specs.Lists.{walk_at}
use Rattle.conn_graph.proofs.Going.{IsTaking}
use Rattle.conn_graph.proofs.walks.take_along.Given as goal

abbrev pub invariant-loop : goal.invariant-loop
invariant-loop l = IsTaking l.fn.lists l.lists l.fn.from.0 l.fn.form l.counter l.next × (l.end ≡ length (walk_at l.fn.lists.outs l.fn.from.0))
