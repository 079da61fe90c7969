use Rattle.std.proofs.Common.{sym, ap, ◌∙◌, arith, Some}
use Rattle.std.proofs.lemmas.Option.{get_or_from_slice_get}
use Rattle.param_events.specs.Edits.{goes_past}
use Rattle.param_events.proofs.Order.{last_taken}
use Rattle.param_events.proofs.edits.goes_past.Goals as goal

pub returns-then-i-gt0 : goal.returns-then-i-gt0
returns-then-i-gt0 c =
    c.goes_past.ensures ∙ ap (λ e. goes_past c.args.time (Some e)) (sym (get_or_from_slice_get c.args.events.now _ c.get.result.now c.get.result.now c.get.ensures))
    ∙ ap (goes_past c.args.time) (sym (last_taken c.args.i c.args.events.now c.get.result.now (omega arith) c.requires))
