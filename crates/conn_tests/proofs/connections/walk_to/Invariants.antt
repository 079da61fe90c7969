use Rattle.conn_graph.specs.Walks.{IsOnWalk, in_walk}
use Rattle.conn_tests.proofs.connections.walk_to.Given as goal

abbrev pub invariant-loop : goal.invariant-loop
invariant-loop g l = IsOnWalk (in_walk l.graph l.node) l.after
