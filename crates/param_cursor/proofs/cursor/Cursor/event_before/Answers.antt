use Rattle.std.proofs.Common.{ap, sym, ◌∙◌, arith, Some}
use Rattle.std.proofs.lemmas.Option.{get_or_from_slice_get}
use Rattle.param_events.proofs.Order.{last_taken}
use Rattle.param_cursor.proofs.cursor.Cursor.event_before.Goals as goal

pub returns-else-place-eq0-clause-value : goal.returns-else-place-eq0-clause-value
returns-else-place-eq0-clause-value g c =
    ap Some (sym (get_or_from_slice_get c.args.line.now.events _ c.look.result.now c.look.result.now c.look.ensures.event)) ∙ sym (last_taken c.args.place c.args.line.now.events c.look.result.now (omega arith) c.requires)
