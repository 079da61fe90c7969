use Rattle.std.proofs.Common.{◌≡◌, Bool, true, false}
use Rattle.derivations.specs.Contexts.{tape_in}
use Rattle.explain_top.proofs.Cuts.{no_line, no_reading, no_fact_there}
use Rattle.explain_top.proofs.lines.first_fact.Goals as goal

never : (b : Bool) → b ≡ false → b ≡ true → ⊥
never b e f = absurd cc

pub returns-in-None-clause-none : goal.returns-in-None-clause-none
returns-in-None-clause-none c = no_line c.args.context.quantum (tape_in c.args.context) c.args.text.now c.in-None.ensures.none

pub returns-in-None-read_fact-clause-none : goal.returns-in-None-read_fact-clause-none
returns-in-None-read_fact-clause-none c =
    no_reading c.args.context.quantum (tape_in c.args.context) c.in-Some.line.now c.in-Some.more.now c.args.text.now c.in-Some.ensures.some c.in-None-read_fact.ensures.none

pub returns-else-is_fact-clause-none : goal.returns-else-is_fact-clause-none
returns-else-is_fact-clause-none c =
    no_fact_there c.args.context.quantum (tape_in c.args.context) c.in-Some.line.now c.in-Some.more.now c.args.text.now c.in-Some-read_fact.fact c.in-Some.ensures.some c.in-Some-read_fact.ensures.read
    (λ f. never _ c.if-is_fact.false (c.is_fact.ensures.1 f))
