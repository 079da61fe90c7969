use Rattle.std.proofs.Common.{◌≡◌, ap, sym, ◌∙◌, Some, subst}
use Rattle.std.specs.Prelude.{IfSome}
use Rattle.sched_source.specs.Playback.{IsPlayable}
use Rattle.sched_source.specs.Schedule.{Schedule}
use Rattle.sched_source.proofs.Schedules.{schedule_inside}
use Rattle.sched_source.proofs.sched.Sched.play.Goals as goal

pub play_span-requires-clause-inside : goal.play_span-requires-clause-inside
play_span-requires-clause-inside c frame heard =
    let schedule = c.args.self.now in
    let has : schedule.content ≡ Some c.in-Some.content = sym (ap (λ (s : Schedule). s.content) c.self.view_is) ∙ c.in-Some.is in
    let begins : schedule.start ≡ Some c.in-Some-start.start = sym (ap (λ (s : Schedule). s.start) c.self.view_is) ∙ c.in-Some-start.is in
    let playable : IsPlayable c.in-Some.content = subst (λ o. IfSome o IsPlayable) c.in-Some.is c.self.invariant.content in
    schedule_inside schedule c.in-Some.content c.in-Some-start.start c.end_frame.result frame (record { has = has; begins = begins; ends = c.end_frame.ensures }) playable heard
