use Rattle.std.proofs.Common.{◌≡◌, None, ap, ◌∙◌}
use Rattle.std.specs.Result.{result_err}
use Rattle.sched_source.specs.Schedule.{Schedule, with_loop, loop_refusal}
use Rattle.meaning.specs.Plays.{rescheduled}
use Rattle.meaning.proofs.Changing.{not_refused}
use Rattle.meaning.proofs.Loops.{looped_part, free_loop}
use Rattle.meaning.proofs.scheds.Play.edit.Goals as goal

pub returns-in-SetLoop : goal.returns-in-SetLoop
returns-in-SetLoop c =
    let sched : Schedule = c.args.self.now.sched in
    let free : loop_refusal sched ≡ None = free_loop c.requires.accepted.0 c.in-SetLoop.part c.args.self.now (rw c.in-SetLoop.is at c.requires.accepted.1) in
    let none : result_err c.set_loop-accepted.result ≡ None = c.set_loop-accepted.ensures.refusal ∙ free in
    let set : c.set_loop-accepted.new.self ≡ with_loop c.set_in-points.result sched = not_refused c.set_loop-accepted.result none c.set_loop-accepted.ensures.ok in
    rw c.in-SetLoop.is (ap (rescheduled c.args.self.now) (set ∙ ap (λ points. with_loop points sched) c.set_in-points.ensures ∙ looped_part sched c.points.result c.in-SetLoop.part c.points.ensures))
