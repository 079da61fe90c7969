use Rattle.std.proofs.Common.{rules, ◌≡◌, ◌≤◌, ◌+◌, ◌-◌, ap, sym, subst, ◌∙◌, arith, Some, FitsSigned, to_z, of_z}
use Rattle.std.specs.Prelude.{IfSome, option_copied}
use Rattle.std.specs.Int.{w32}
use Rattle.std.proofs.lemmas.Int.{to_z-of_z}
use Rattle.param_events.specs.declared.events.Event.TheVariants.{Ramp}
use Rattle.param_events.specs.Events.{time_of}
use Rattle.param_events.specs.Values.{along, between}
use Rattle.param_cursor.proofs.ramps.ramp_between.Goals as goal

pub returns-clause-value : goal.returns-clause-value
returns-clause-value c base m =
    let frame = c.args.first + m in
    let from = c.in_ok-held.held.from in
    let value = c.in_ok-held.held.value in
    let to = c.in-Some-Ramp.to in
    let parts = c.in-Some-Ramp.end - from in
    let here : option_copied c.args.here ≡ Some c.in_ok-here.field-0.now = ap option_copied c.in_ok-here.was in
    let next : option_copied c.args.next ≡ Some (Ramp c.in-Some-Ramp.end to) = search rules in
    let begun : time_of c.in_ok-here.field-0.now ≤ c.args.first = subst (λ o. IfSome o (λ e. time_of e ≤ c.args.first)) here c.requires.begun in
    let part : frame - from ≡ c.args.first - from + m = omega (arith, begun, c.in_ok-held.ensures.from) in
    let value_fits : FitsSigned w32 value = search rules in
    let to_fits : FitsSigned w32 to = search rules in
    ap (λ o. between base o (option_copied c.args.next) frame) here
    ∙ ap (λ o. between base (Some c.in_ok-here.field-0.now) o frame) next
    ∙ c.in_ok-held.ensures.value base (Some (Ramp c.in-Some-Ramp.end to)) frame
    ∙ ap (λ n. along value to n parts) part
    ∙ ap (λ v. along v to (c.args.first - from + m) parts) (sym (to_z-of_z _ _ value_fits))
    ∙ ap (λ v. along (to_z w32 (of_z w32 value)) v (c.args.first - from + m) parts) (sym (to_z-of_z _ _ to_fits))
