use Rattle.derivations.specs.Contexts.{tape_in}
use Rattle.derivations.proofs.Knowing.{in_meaning}
use Rattle.equations.specs.Given.{meaning_of}
use Rattle.equations.proofs.Deriving.{in_all}
use Rattle.equations.proofs.derived.fact_of.Goals as goal

pub meant_fact-requires-clause-given : goal.meant_fact-requires-clause-given
meant_fact-requires-clause-given c = record { ready = c.requires.ready; short = c.requires.short }

pub meant_fact-requires-clause-known : goal.meant_fact-requires-clause-known
meant_fact-requires-clause-known c =
    c.requires.needed (meaning_of c.args.context) (in_meaning c.args.context.quantum (tape_in c.args.context) c.args.context.known.now c.requires.ready)

pub returns : goal.returns
returns c =
    in_all c.args.context (record { ready = c.requires.ready; short = c.requires.short }) c.args.key c.requires.key
    (c.requires.needed (meaning_of c.args.context) (in_meaning c.args.context.quantum (tape_in c.args.context) c.args.context.known.now c.requires.ready)) c.meant_fact.result c.meant_fact.ensures
