use Rattle.std.proofs.Common.{◌≡◌, None, false, sym, ◌∙◌}
use Rattle.conn_graph.specs.Graph.{connect_refusal, has_edge}
use Rattle.conn_graph.proofs.Wholes.{whole_put, put_is_connected, few_out, few_in}
use Rattle.conn_graph.proofs.graph.Graph.connect.Goals as goal

pub put-requires-clause-few_out : goal.put-requires-clause-few_out
put-requires-clause-few_out c = few_out c.self.inside.lists c.self.invariant c.args.edge.from.0

pub put-requires-clause-few_in : goal.put-requires-clause-few_in
put-requires-clause-few_in c = few_in c.self.inside.lists c.self.invariant _

pub invariant_of-self-2 : goal.invariant_of-self-2
invariant_of-self-2 c =
    let from = rw (← c.self.view_is) at c.requires.from in
    let to = rw (← c.self.view_is) at c.requires.to in
    let none : connect_refusal c.args.self.now.value c.args.edge ≡ None = sym c.connect_refusal.ensures ∙ c.in_default.is in
    let unrefused = rw (← c.self.view_is) at none in
    let no : has_edge c.args.self.now.value c.args.edge ≡ false = sym c.has_edge.ensures ∙ c.if-has_edge.false in
    let fresh = rw (← c.self.view_is) at no in
    whole_put c.self.inside.lists _ c.self.invariant c.in_ok-put.ensures.whole c.args.edge from to fresh unrefused c.put.ensures.nodes c.in_ok-put.ensures.ok

pub returns-clause-value : goal.returns-clause-value
returns-clause-value c =
    let from = rw (← c.self.view_is) at c.requires.from in
    let no : has_edge c.args.self.now.value c.args.edge ≡ false = sym c.has_edge.ensures ∙ c.if-has_edge.false in
    let fresh = rw (← c.self.view_is) at no in
    rw (← c.self.view_is) (put_is_connected c.self.inside.lists _ c.self.invariant c.in_ok-put.ensures.whole c.args.edge from fresh c.put.ensures.nodes c.in_ok-put.ensures.ok)

pub returns-clause-whole : goal.returns-clause-whole
returns-clause-whole c = (invariant_of-self-2 c).graph
