use Rattle.std.proofs.Common.{◌≡◌, length}
use Rattle.conn_graph.specs.Edges.{is_named}
use Rattle.conn_graph.specs.Lists.{thread}
use Rattle.conn_graph.proofs.Going.{IsLooking}
use Rattle.conn_graph.proofs.walks.find_named.Given as goal

abbrev pub invariant-loop : goal.invariant-loop
invariant-loop l = IsLooking (is_named l.fn.from.0 l.fn.form) (thread l.fn.side l.fn.lists l.fn.node.0) l.counter l.next × (l.end ≡ length (thread l.fn.side l.fn.lists l.fn.node.0))
