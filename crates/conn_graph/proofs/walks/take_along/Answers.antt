use Rattle.std.proofs.Common.{◌+◌, ◌<◌, length, sym, ◌∙◌, subst, arith}
use Rattle.conn_graph.specs.Lists.{Threads}
use Rattle.conn_graph.proofs.Going.{IsTaking, is_on_current, taking_kept, taking_gone, taking_stopped}
use Rattle.conn_graph.proofs.walks.take_along.Goals.{then-is_named, else-is_named}
use Rattle.conn_graph.proofs.walks.take_along.Goals as goal

pub next-next-requires-in-loop-clause-after : goal.next-next-requires-in-loop-clause-after
next-next-requires-in-loop-clause-after c =
    let low : c.args.from.0 < length c.args.lists.now.outs = let l = c.requires.whole.outs in let n = c.requires.node in omega arith in
    let taking = subst (IsTaking c.args.lists.now c.loop.lists c.args.from.0 c.args.form c.loop.counter) c.in-Some.is c.loop.invariant.0 in
    is_on_current c.args.lists.now c.loop.lists c.args.from.0 c.args.form c.loop.counter (c.in-Some.key, c.in-Some.edge) low taking

pub loop-preserved : goal.loop-preserved
loop-preserved c =
    let low : c.args.from.0 < length c.args.lists.now.outs = let l = c.requires.whole.outs in let n = c.requires.node in omega arith in
    let taking = subst (IsTaking c.args.lists.now c.loop.lists c.args.from.0 c.args.form c.loop.counter) c.in-Some.is c.loop.invariant.0 in (
      elim c.if-is_named.branch [
        | then-is_named w ↦
            subst (λ (t : Threads). IsTaking c.args.lists.now t c.args.from.0 c.args.form (c.loop.counter + 1) c.next-next-in-loop.result) (sym w.lists-is)
            (taking_gone c.args.lists.now c.loop.lists c.args.from.0 c.args.form c.loop.counter (c.in-Some.key, c.in-Some.edge) low taking w.take.new.self c.next-next-in-loop.result c.next-next-in-loop.ensures
            (sym c.is_named.ensures ∙ w.if-is_named.true) w.take.ensures.taken w.take.ensures.nodes w.take.ensures.room w.take.ensures.whole)
        | else-is_named w ↦
            subst (λ (t : Threads). IsTaking c.args.lists.now t c.args.from.0 c.args.form (c.loop.counter + 1) c.next-next-in-loop.result) (sym w.lists-is)
            (taking_kept c.args.lists.now c.loop.lists c.args.from.0 c.args.form c.loop.counter (c.in-Some.key, c.in-Some.edge) low taking c.next-next-in-loop.result c.next-next-in-loop.ensures
            (sym c.is_named.ensures ∙ w.if-is_named.false))
      ],
      c.loop.invariant.1,
    )

pub returns-in_default-clause-outs : goal.returns-in_default-clause-outs
returns-in_default-clause-outs c =
    taking_stopped c.args.lists.now c.loop.lists c.args.from.0 c.args.form c.loop.counter (subst (IsTaking c.args.lists.now c.loop.lists c.args.from.0 c.args.form c.loop.counter) c.in_default.is c.loop.invariant.0)
