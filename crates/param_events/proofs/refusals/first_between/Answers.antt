use Rattle.std.proofs.Common.{◌≡◌, ◌≤◌, ◌<◌, true, false, cond, Some, None, sym, ap, ◌∙◌, arith, rules}
use Rattle.std.specs.Prelude.{slice_get, nat_lt}
use Rattle.std.proofs.lemmas.Bool.Decides.{nat_tests}
use Rattle.param_events.specs.Events.{time_of}
use Rattle.param_events.proofs.Running.{between_at, begins_before, get_past}
use Rattle.param_events.proofs.refusals.first_between.Goals as goal
use Rattle.param_events.proofs.refusals.first_between.Goals.{else-i-len-via-then-i-len+else-time-finish, else-i-len-via-else-i-len}

pub returns-then-time-finish : goal.returns-then-time-finish
returns-then-time-finish c =
    let i = c.place-i.result in
    let es = c.args.events.now in
    let before : nat_lt (time_of c.get.result.now) c.args.finish ≡ true = let l : time_of c.get.result.now < c.args.finish = search rules in grind (arith, nat_tests) in
    sym (between_at c.args.start c.args.finish i es c.requires c.place-i.ensures.before c.place-i.ensures.after c.place-i.ensures.within
    ∙ ap (λ o. cond (begins_before c.args.finish o) (Some i) None) c.get.ensures
    ∙ ap (λ b. cond b (Some i) None) before)

pub returns-else-i-len : goal.returns-else-i-len
returns-else-i-len c =
    let i = c.place-i.result in
    let es = c.args.events.now in
    let found = between_at c.args.start c.args.finish i es c.requires c.place-i.ensures.before c.place-i.ensures.after c.place-i.ensures.within in
    elim c.else-i-len.branch [
      | else-i-len-via-then-i-len+else-time-finish w ↦
          let late : nat_lt (time_of w.get.result.now) c.args.finish ≡ false = let l : c.args.finish ≤ time_of w.get.result.now = search rules in grind (arith, nat_tests) in
          sym (found ∙ ap (λ o. cond (begins_before c.args.finish o) (Some i) None) w.get.ensures ∙ ap (λ b. cond b (Some i) None) late)
      | else-i-len-via-else-i-len w ↦
          let past : slice_get es i ≡ None = get_past i es (omega (arith, w.if-i-len.false, c.len.ensures)) in
          sym (found ∙ ap (λ o. cond (begins_before c.args.finish o) (Some i) None) past)
    ]
