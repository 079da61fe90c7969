use Rattle.std.proofs.Common.{rules, FitsSigned, ◌∙◌}
use Rattle.std.specs.Int.{w64}
use Rattle.std.proofs.lemmas.Int.{to_z-of_z}
use Rattle.equations.proofs.Needed.{history_known, fact_is}
use Rattle.explain.specs.declared.facts.Key.TheVariants.{Hist}
use Rattle.equations.proofs.derived.history_fact.Goals as goal

pub history_of-requires-clause-past : goal.history_of-requires-clause-past
history_of-requires-clause-past c = record { there = c.requires.key.quantum; node = c.requires.key.place.0; history = c.requires.key.place.1 }

pub history_of-requires-clause-known : goal.history_of-requires-clause-known
history_of-requires-clause-known c = history_known c.args.context c.args.heard.frame c.args.heard.node c.args.heard.channel c.requires.known

pub returns : goal.returns
returns c =
    let wide : FitsSigned w64 c.in_ok-history.history.value = search rules in
    fact_is c.args.context (Hist c.args.heard.frame c.args.heard.node c.args.heard.channel) c.key.result _ c.in_ok-history.history.cells c.key.ensures
    (to_z-of_z _ _ wide ∙ c.in_ok-history.ensures.value) c.in_ok-history.ensures.cells
