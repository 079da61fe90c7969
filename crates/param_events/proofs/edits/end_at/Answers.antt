use Rattle.std.proofs.Common.{◌≡◌, pos, sym, ◌∙◌, ap, take, rules, true}
use Rattle.param_events.specs.declared.events.Event.{Event}
use Rattle.param_events.specs.declared.events.Event.TheVariants.{Set}
use Rattle.param_events.specs.Edits.{goes_past, with_last_cut}
use Rattle.param_events.specs.Events.{until, after, last}
use Rattle.param_events.proofs.Holds.{cut_there, held_past}
use Rattle.param_events.proofs.edits.end_at.Goals as goal

pub returns-then-goes_past : goal.returns-then-goes_past
returns-then-goes_past c =
    let d : Event = Set 0 (pos 0) in
    let items = c.args.items.now in
    let i = c.place-i.result in
    let past : goes_past c.args.time (last (take i items)) ≡ true = search rules in
    c.truncate.ensures ∙ ap (take i) (c.cut_at.ensures d) ∙ cut_there c.args.time i items d past c.place-i.ensures.within
    ∙ ap (with_last_cut c.args.time) (sym c.place-i.ensures.before)
    ∙ sym (held_past (until c.args.time items) (after c.args.time items) c.args.time c.args.value (ap (λ xs. goes_past c.args.time (last xs)) c.place-i.ensures.before ∙ past))
