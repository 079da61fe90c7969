use Rattle.std.proofs.Common.{◌≡◌, false, Some, sym, ◌∙◌, ap}
use Rattle.std.specs.Option.{option_map_or}
use Rattle.meaning.specs.declared.params.Param.{Param}
use Rattle.meaning.specs.World.{is_k, find_param}
use Rattle.meaning.proofs.Sounding.{k_rate_sounding}
use Rattle.derivations.proofs.inputs.is_k_rate.Goals as goal

pub returns-in-Some : goal.returns-in-Some
returns-in-Some c =
    let found : find_param c.args.world.now.params.items c.args.id ≡ Some c.at.result.now = sym c.in-Some.ensures.item ∙ c.at.ensures in
    c.is_k.ensures ∙ sym (k_rate_sounding c.args.world.now c.args.id ∙ ap (λ o. option_map_or (λ (p : Param). is_k p.rate) o false) found)

pub returns-in-None : goal.returns-in-None
returns-in-None c =
    sym (k_rate_sounding c.args.world.now c.args.id ∙ ap (λ o. option_map_or (λ (p : Param). is_k p.rate) o false) (sym c.in-None.ensures.item))
