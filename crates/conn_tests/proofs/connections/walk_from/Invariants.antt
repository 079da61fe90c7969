use Rattle.conn_graph.specs.Walks.{IsOnWalk, out_walk}
use Rattle.conn_tests.proofs.connections.walk_from.Given as goal

abbrev pub invariant-loop : goal.invariant-loop
invariant-loop g l = IsOnWalk (out_walk l.graph l.node) l.after
