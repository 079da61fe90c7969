use Rattle.std.proofs.Common.{rules, ◌≤◌, ◌+◌, ap, sym, subst, ◌∙◌, arith, FitsSigned}
use Rattle.std.specs.Prelude.{option_copied, IfSome}
use Rattle.std.specs.Int.{w32}
use Rattle.std.proofs.lemmas.Int.{to_z-of_z}
use Rattle.param_events.specs.Events.{time_of}
use Rattle.param_events.specs.Timeline.{IsSound}
use Rattle.param_events.proofs.Finds.{sound_at}
use Rattle.param_cursor.proofs.Draws.{drawn_same}
use Rattle.param_cursor.proofs.Neighbours.{last_before, if_there, between_is, base_is}
use Rattle.param_cursor.proofs.spans.draw_around.Goals as goal

pub draw_between-requires-clause-sound : goal.draw_between-requires-clause-sound
draw_between-requires-clause-sound c =
    let last = last_before c.args.around.place c.args.line.now.events c.in-Some.event.now c.requires.place (sym c.requires.here ∙ ap option_copied c.in-Some.is) in
    subst IsSound (last.1 c.in-Some.event.now) (sound_at 0 _ c.args.line.now.events c.in-Some.event.now c.requires.timeline.ordered (omega (arith, last.0, c.requires.place)))

pub draw_between-requires-clause-begun : goal.draw_between-requires-clause-begun
draw_between-requires-clause-begun c =
    let last = last_before c.args.around.place c.args.line.now.events c.in-Some.event.now c.requires.place (sym c.requires.here ∙ ap option_copied c.in-Some.is) in
    subst (λ e. time_of e ≤ c.args.first + c.args.at) (last.1 c.in-Some.event.now) (c.requires.begun c.in-Some.event.now last.0)

pub draw_between-requires-clause-later : goal.draw_between-requires-clause-later
draw_between-requires-clause-later c = subst (λ o. IfSome o (λ e. c.args.first + c.args.end ≤ time_of e)) (sym c.requires.next) (if_there c.args.around.place c.args.line.now.events (λ e. c.args.first + c.args.end ≤ time_of e) c.requires.later)

pub returns-in-Some : goal.returns-in-Some
returns-in-Some c =
    drawn_same _ _ c.args.at c.args.end _ _ (c.draw_between.ensures c.args.line.now.base)
    (λ m low high. between_is c.args.line.now.base c.args.line.now.events c.args.around.place c.args.at c.args.end c.args.first m c.in-Some.event.now (option_copied c.args.around.next) c.requires.timeline (sym c.requires.here ∙ ap option_copied c.in-Some.is) c.requires.next c.requires.place c.requires.begun c.requires.later low high)

pub returns-in-None : goal.returns-in-None
returns-in-None c =
    let fits : FitsSigned w32 c.base.result = search rules in
    drawn_same _ _ c.args.at c.args.end _ _ c.draw_level.ensures
    (λ m low high. to_z-of_z _ _ fits ∙ c.base.ensures ∙ base_is c.args.line.now.base c.args.line.now.events c.args.around.place c.args.end c.args.first m c.requires.timeline (sym c.requires.here ∙ ap option_copied c.in-None.is) c.requires.place c.requires.later high)
