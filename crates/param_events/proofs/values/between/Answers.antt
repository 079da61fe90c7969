use Rattle.std.proofs.Common.{◌≡◌, ◌-◌, rules, ap, sym, ◌∙◌, Some, FitsSigned}
use Rattle.std.specs.Prelude.{option_copied}
use Rattle.std.specs.Int.{w32}
use Rattle.std.proofs.lemmas.Int.{to_z-of_z}
use Rattle.param_events.specs.Values as meant
use Rattle.param_events.proofs.Finds.{curve_held}
use Rattle.param_events.proofs.values.between.Goals as goal

pub returns-else-frame-end : goal.returns-else-frame-end
returns-else-frame-end c = λ base.
    let value : c.towards-else-frame-end.result ≡ meant.towards (meant.curve_value c.in-Curve.points c.in-Curve.duration (c.in-Curve.end - c.in-Curve.time)) c.in-Curve.end (option_copied c.args.next) c.args.frame = search rules in
    let fits : FitsSigned w32 c.towards-else-frame-end.result = search rules in
    to_z-of_z _ _ fits ∙ value ∙ sym (curve_held base c.in-Curve.time c.in-Curve.duration c.in-Curve.end c.in-Curve.points (option_copied c.args.next) c.args.frame c.if-frame-end.false)
    ∙ ap (λ e. meant.between base (Some e) (option_copied c.args.next) c.args.frame) (sym c.in-Curve.is)
