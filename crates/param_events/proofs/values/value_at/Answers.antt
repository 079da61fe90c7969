use Rattle.std.proofs.Common.{◌-◌, ◌<◌, ◌≤◌, rules, ap, sym, ◌∙◌, subst, arith, Some, FitsSigned, get_or, take}
use Rattle.std.specs.Prelude.{option_copied, IfSome}
use Rattle.std.specs.Int.{w32}
use Rattle.std.proofs.lemmas.Int.{to_z-of_z}
use Rattle.std.proofs.lemmas.Option.{get_or_from_slice_get}
use Rattle.param_events.specs.Values as meant
use Rattle.param_events.specs.Events.{time_of}
use Rattle.param_events.specs.Timeline.{IsSound}
use Rattle.param_events.proofs.Finds.{sound_at, begun_at, later_at, found, found_base}
use Rattle.param_events.proofs.values.value_at.Goals as goal

pub between-requires-clause-sound : goal.between-requires-clause-sound
between-requires-clause-sound c = subst IsSound (get_or_from_slice_get c.args.events.now _ c.get.result.now c.get.result.now c.get.ensures) (sound_at 0 _ c.args.events.now c.get.result.now c.requires.ordered (omega arith))

pub between-requires-clause-begun : goal.between-requires-clause-begun
between-requires-clause-begun c =
    subst (λ e. time_of e ≤ c.args.frame) (get_or_from_slice_get c.args.events.now _ c.get.result.now c.get.result.now c.get.ensures) (begun_at c.args.frame c.place-i.result _ c.args.events.now c.get.result.now c.place-i.ensures.before (omega arith) c.place-i.ensures.within)

pub between-requires-clause-later : goal.between-requires-clause-later
between-requires-clause-later c = subst (λ o. IfSome o (λ e. c.args.frame < time_of e)) (sym c.event_at.ensures) (later_at c.args.frame c.place-i.result c.args.events.now c.place-i.ensures.after)

pub returns-then-i-eq0 : goal.returns-then-i-eq0
returns-then-i-eq0 c = to_z-of_z _ _ c.ranges.base ∙ sym (found_base c.args.base c.args.events.now c.args.frame (c.place-i.ensures.before ∙ ap (λ i. take i c.args.events.now) c.if-i-eq0.true))

pub returns-else-i-eq0 : goal.returns-else-i-eq0
returns-else-i-eq0 c =
    let fits : FitsSigned w32 c.between.result = search rules in
    to_z-of_z _ _ fits ∙ c.between.ensures c.args.base
    ∙ ap (λ e. meant.between c.args.base (Some e) (option_copied c.event_at.result) c.args.frame) (sym (get_or_from_slice_get c.args.events.now _ c.get.result.now c.get.result.now c.get.ensures))
    ∙ ap (λ o. meant.between c.args.base (Some (get_or c.args.events.now (c.place-i.result - 1) c.get.result.now)) o c.args.frame) c.event_at.ensures
    ∙ sym (found c.args.base c.args.events.now c.args.frame c.place-i.result c.get.result.now (omega arith) c.place-i.ensures.within c.place-i.ensures.before c.place-i.ensures.after)
