use Rattle.explain_top.proofs.Cuts.{nowhere_in, none_before, cut_at_mark}
use Rattle.explain_top.proofs.lines.first_line.Goals as goal

pub returns-in-None-clause-none : goal.returns-in-None-clause-none
returns-in-None-clause-none c = nowhere_in 10 c.args.text.now c.in-None.ensures

pub returns-in-Some-clause-some : goal.returns-in-Some-clause-some
returns-in-Some-clause-some c =
    let found = c.in-Some.ensures in
    (cut_at_mark 10 c.args.text.now c.in-Some.end found.0.high found.1, none_before 10 c.args.text.now c.in-Some.end found.0.before)
