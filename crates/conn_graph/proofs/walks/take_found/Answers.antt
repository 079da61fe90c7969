use Rattle.std.proofs.Common.{◌<◌, length, sym, arith}
use Rattle.conn_graph.proofs.Going.{finding_more, finding_fewer, finding_ended}
use Rattle.conn_graph.proofs.walks.take_found.Goals as goal

pub loop-key-preserved : goal.loop-key-preserved
loop-key-preserved c =
    let low : c.args.from.0 < length c.args.lists.now.outs = let l = c.requires.whole.outs in let n = c.requires.from in omega arith in
    let found = c.in-Some.ensures.found in
    finding_more c.args.lists.now c.loop-key.lists c.take.new.self c.args.from.0 c.args.form c.args.to.0 c.in-Some.key found.0 low c.loop-key.invariant found.1 found.2 c.take.ensures.taken c.take.ensures.nodes c.take.ensures.room c.take.ensures.whole

pub loop-key-smaller : goal.loop-key-smaller
loop-key-smaller c =
    let low : c.args.from.0 < length c.args.lists.now.outs = let l = c.requires.whole.outs in let n = c.requires.from in omega arith in
    let found = c.in-Some.ensures.found in
    finding_fewer c.args.lists.now c.loop-key.lists c.take.new.self c.args.from.0 c.args.form c.args.to.0 c.in-Some.key found.0 low c.loop-key.invariant found.1 found.2 c.take.ensures.taken c.take.ensures.nodes c.take.ensures.room c.take.ensures.whole

pub returns-clause-outs : goal.returns-clause-outs
returns-clause-outs c =
    finding_ended c.args.lists.now c.loop-key.lists c.args.from.0 c.args.form c.args.to.0 c.loop-key.invariant c.requires.form (sym c.in_default.ensures.any)
