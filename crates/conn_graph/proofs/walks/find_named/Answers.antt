use Rattle.std.proofs.Common.{sym, ◌∙◌, subst}
use Rattle.conn_graph.specs.Edges.{is_named}
use Rattle.conn_graph.specs.Lists.{thread}
use Rattle.conn_graph.proofs.Going.{IsLooking, cells_of, on_walk, in_walk, goes_on, found, stopped}
use Rattle.conn_graph.proofs.walks.find_named.Goals as goal

pub returns-then-is_named : goal.returns-then-is_named
returns-then-is_named c =
    let looking = subst (IsLooking (is_named c.args.from.0 c.args.form) (thread c.args.side c.args.lists.now c.args.node.0) c.loop.counter) c.in-Some.is c.loop.invariant.0 in
    let named = sym c.is_named.ensures ∙ c.if-is_named.true in
    record {
      any = found _ _ c.loop.counter (c.in-Some.key, c.in-Some.edge) looking named;
      found = (c.in-Some.edge, in_walk _ c.loop.counter (c.in-Some.key, c.in-Some.edge) looking.first, named);
    }

pub next-next-requires-in-loop-clause-after : goal.next-next-requires-in-loop-clause-after
next-next-requires-in-loop-clause-after c =
    let looking = subst (IsLooking (is_named c.args.from.0 c.args.form) (thread c.args.side c.args.lists.now c.args.node.0) c.loop.counter) c.in-Some.is c.loop.invariant.0 in
    on_walk _ c.loop.counter (c.in-Some.key, c.in-Some.edge) looking.first

pub loop-preserved : goal.loop-preserved
loop-preserved c =
    let looking = subst (IsLooking (is_named c.args.from.0 c.args.form) (thread c.args.side c.args.lists.now c.args.node.0) c.loop.counter) c.in-Some.is c.loop.invariant.0 in (
      goes_on _ _ c.loop.counter (c.in-Some.key, c.in-Some.edge) c.next-next-in-loop.result (cells_of c.args.lists.now c.args.side c.args.node.0 c.requires.whole) looking (sym c.is_named.ensures ∙ c.if-is_named.false) c.next-next-in-loop.ensures,
      c.loop.invariant.1,
    )

pub returns-in_default-clause-any : goal.returns-in_default-clause-any
returns-in_default-clause-any c =
    stopped _ _ c.loop.counter (subst (IsLooking (is_named c.args.from.0 c.args.form) (thread c.args.side c.args.lists.now c.args.node.0) c.loop.counter) c.in_default.is c.loop.invariant.0)
