use Rattle.std.proofs.Common.{◌≡◌, false, Some, sym, ◌∙◌, ap}
use Rattle.std.specs.Option.{option_map_or}
use Rattle.sched_source.specs.Schedule.{plays_at}
use Rattle.meaning.specs.declared.scheds.Play.{Play}
use Rattle.meaning.specs.World.{find_play}
use Rattle.derivations.proofs.outputs.sounds.Goals as goal

pub returns-in-Some : goal.returns-in-Some
returns-in-Some c =
    let found : find_play c.args.world.now.scheds.items c.args.node.0 ≡ Some c.at.result.now = sym c.in-Some.ensures.item ∙ c.at.ensures in
    c.plays.ensures ∙ sym (ap (λ o. option_map_or (λ (p : Play). plays_at p.sched c.args.frame) o false) found)

pub returns-in-None : goal.returns-in-None
returns-in-None c = sym (ap (λ o. option_map_or (λ (p : Play). plays_at p.sched c.args.frame) o false) (sym c.in-None.ensures.item))
