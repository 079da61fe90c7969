use Rattle.conn_graph.proofs.AllLists.{are_threads, lists_more_are}
use Rattle.conn_graph.proofs.lists.Lists.add_node.Goals as goal

pub invariant_of-self-2 : goal.invariant_of-self-2
invariant_of-self-2 c = rw (c.in_ok-push.ensures.items, c.new.ensures) (lists_more_are c.self.inside.nodes.items c.self.inside.cells c.args.ports c.self.invariant)

pub returns-clause-whole : goal.returns-clause-whole
returns-clause-whole c = are_threads _ c.self.inside.cells _ (invariant_of-self-2 c)
