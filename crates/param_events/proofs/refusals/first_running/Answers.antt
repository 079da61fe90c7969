use Rattle.std.proofs.Common.{◌≡◌, ◌-◌, take, true, false, cond, Some, None, sym, ap, ◌∙◌, rules}
use Rattle.param_events.specs.Edits.{goes_past}
use Rattle.param_events.specs.Events.{last}
use Rattle.param_events.proofs.Running.{running_at}
use Rattle.param_events.proofs.refusals.first_running.Goals as goal

pub returns-then-goes_past : goal.returns-then-goes_past
returns-then-goes_past c =
    let i = c.place-i.result in
    let yes : goes_past c.args.at (last (take i c.args.events.now)) ≡ true = search rules in
    sym (running_at c.args.at i c.args.events.now c.requires c.place-i.ensures.before c.place-i.ensures.within ∙ ap (λ b. cond b (Some (i - 1)) None) yes)

pub returns-else-goes_past : goal.returns-else-goes_past
returns-else-goes_past c =
    let i = c.place-i.result in
    let no : goes_past c.args.at (last (take i c.args.events.now)) ≡ false = search rules in
    sym (running_at c.args.at i c.args.events.now c.requires c.place-i.ensures.before c.place-i.ensures.within ∙ ap (λ b. cond b (Some (i - 1)) None) no)
