use Rattle.std.proofs.Common.{◌≡◌, rules, FitsSigned, ap, ◌∙◌}
use Rattle.std.specs.Int.{w32}
use Rattle.std.proofs.lemmas.Int.{to_z-of_z}
use Rattle.param_events.specs.Edits.{moment, base_after}
use Rattle.param_events.specs.Timeline.{Timeline}
use Rattle.param_events.specs.Events.{until}
use Rattle.param_events.proofs.Cancels.{cancel_is}
use Rattle.param_events.proofs.timeline.Timeline.cancel.Goals as goal

pub returns-clause-ok : goal.returns-clause-ok
returns-clause-ok c =
    let at : c.in-Ok.at ≡ moment c.args.now c.args.time = search rules in
    let fits_base : FitsSigned w32 c.self.inside.base = search rules in
    let fits_slot : FitsSigned w32 c.self.inside.slot = search rules in
    let fits : FitsSigned w32 c.base_after-base.result = search rules in
    let base : c.base_after-base.result ≡ base_after (until c.args.now c.cancel_from.new.items) c.self.inside.base c.self.inside.slot =
    simp (to_z-of_z _ _ fits_base, to_z-of_z _ _ fits_slot) at c.base_after-base.ensures in
    ap (λ b. let l : Timeline = record { base = b; slot = c.self.inside.slot; events = c.cancel_from.new.items } in l) (to_z-of_z _ _ fits ∙ base)
    ∙ cancel_is c.args.self.now c.self.inside.base c.self.inside.slot c.self.inside.events c.cancel_from.new.items c.args.now c.in-Ok.at c.args.time c.self.view_is at c.cancel_from.ensures.value
