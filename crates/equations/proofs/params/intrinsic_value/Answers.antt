use Rattle.std.proofs.Common.{rules, FitsSigned, ◌≡◌, pos, Some, sym, ◌∙◌, ap}
use Rattle.std.specs.Int.{w32}
use Rattle.std.proofs.lemmas.Int.{to_z-of_z}
use Rattle.std.specs.Option.{option_map_or}
use Rattle.param_events.specs.Values.{value_at}
use Rattle.meaning.specs.declared.params.Param.{Param}
use Rattle.meaning.specs.World.{find_param}
use Rattle.meaning.proofs.Sounding.{intrinsic_sounding}
use Rattle.equations.proofs.params.intrinsic_value.Goals as goal

pub returns-in-Some : goal.returns-in-Some
returns-in-Some c =
    let found : find_param c.args.world.now.params.items c.args.id ≡ Some c.at.result.now = sym c.in-Some.ensures.item ∙ c.at.ensures in
    let fits : FitsSigned w32 c.line_value.result = search rules in
    to_z-of_z _ _ fits ∙ c.line_value.ensures ∙ sym (intrinsic_sounding c.args.world.now c.args.id c.args.frame ∙ ap (λ o. option_map_or (λ (p : Param). value_at p.line.base p.line.events c.args.frame) o (pos 0)) found)

pub returns-in-None : goal.returns-in-None
returns-in-None c =
    sym (intrinsic_sounding c.args.world.now c.args.id c.args.frame ∙ ap (λ o. option_map_or (λ (p : Param). value_at p.line.base p.line.events c.args.frame) o (pos 0)) (sym c.in-None.ensures.item))
