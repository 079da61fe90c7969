use Rattle.std.proofs.Common.{rules, FitsSigned, ◌∙◌}
use Rattle.std.specs.Int.{w64}
use Rattle.std.proofs.lemmas.Int.{to_z-of_z}
use Rattle.equations.proofs.Present.{history_is}
use Rattle.equations.proofs.outputs.history.Goals as goal

pub returns : goal.returns
returns c =
    let fits : FitsSigned w64 c.value_of.result = search rules in
    to_z-of_z _ _ fits ∙ c.value_of.ensures
    ∙ history_is c.args.context c.args.sample.frame c.args.sample.end c.args.sample.output c.args.sample.channel c.requires.given c.requires.present.there c.requires.present.output.end c.requires.present.loud c.requires.history
