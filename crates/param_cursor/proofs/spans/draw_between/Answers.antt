use Rattle.std.proofs.Common.{rules, subst, ◌≡◌, ◌≤◌, ◌+◌, ◌-◌, ap, sym, ◌∙◌, arith, Some, FitsSigned}
use Rattle.std.specs.Prelude.{option_copied}
use Rattle.std.specs.Int.{w32}
use Rattle.std.proofs.lemmas.Int.{to_z-of_z}
use Rattle.param_events.specs.Values as meant
use Rattle.param_events.specs.Events.{time_of}
use Rattle.param_events.proofs.Finds.{curve_held}
use Rattle.param_cursor.proofs.Draws.{drawn_same, drawn_less, drawn_joined}
use Rattle.param_cursor.proofs.Neighbours.{curve_runs}
use Rattle.param_cursor.proofs.spans.draw_between.Goals as goal

pub returns-else-stop-end : goal.returns-else-stop-end
returns-else-stop-end c = λ base.
    drawn_less _ _ c.args.at c.curve_stop-stop.result c.args.end _
    (drawn_same _ _ c.args.at c.curve_stop-stop.result _ _ c.draw_curve.ensures
    (λ m low high.
    let begun : c.in-Curve.time ≤ c.args.first + c.args.at = subst (λ e. time_of e ≤ c.args.first + c.args.at) c.in-Curve.is c.requires.begun in
    let frame : c.args.first + c.args.at - c.in-Curve.time + (m - c.args.at) ≡ c.args.first + m - c.in-Curve.time = omega (arith, begun) in
    ap (λ p. meant.curve_value p c.in-Curve.duration (c.args.first + c.args.at - c.in-Curve.time + (m - c.args.at))) c.as_slice.ensures
    ∙ ap (meant.curve_value c.in-Curve.points c.in-Curve.duration) frame
    ∙ sym (curve_runs base c.in-Curve.time c.in-Curve.duration c.in-Curve.until c.in-Curve.points (option_copied c.args.next) (c.args.first + m) (c.curve_stop-stop.ensures.running m low high))
    ∙ ap (λ e. meant.between base (Some e) (option_copied c.args.next) (c.args.first + m)) (sym c.in-Curve.is)))
    c.if-stop-end.false

pub returns-then-stop-end : goal.returns-then-stop-end
returns-then-stop-end c = λ base.
    let fits : FitsSigned w32 c.curve_value.result = search rules in
    let held : c.curve_value.result ≡ meant.curve_value c.in-Curve.points c.in-Curve.duration (c.in-Curve.until - c.in-Curve.time) =
    c.curve_value.ensures ∙ ap (λ p. meant.curve_value p c.in-Curve.duration (c.in-Curve.until - c.in-Curve.time)) c.as_slice-then-stop-end.ensures in
    let ended = c.curve_stop-stop.ensures.ended c.if-stop-end.true in
    drawn_joined _ _ _ c.args.at c.curve_stop-stop.result c.args.end _
    (drawn_same _ _ c.args.at c.curve_stop-stop.result _ _ c.draw_curve.ensures
    (λ m low high.
    let begun : c.in-Curve.time ≤ c.args.first + c.args.at = subst (λ e. time_of e ≤ c.args.first + c.args.at) c.in-Curve.is c.requires.begun in
    let frame : c.args.first + c.args.at - c.in-Curve.time + (m - c.args.at) ≡ c.args.first + m - c.in-Curve.time = omega (arith, begun) in
    ap (λ p. meant.curve_value p c.in-Curve.duration (c.args.first + c.args.at - c.in-Curve.time + (m - c.args.at))) c.as_slice.ensures
    ∙ ap (meant.curve_value c.in-Curve.points c.in-Curve.duration) frame
    ∙ sym (curve_runs base c.in-Curve.time c.in-Curve.duration c.in-Curve.until c.in-Curve.points (option_copied c.args.next) (c.args.first + m) (c.curve_stop-stop.ensures.running m low high))
    ∙ ap (λ e. meant.between base (Some e) (option_copied c.args.next) (c.args.first + m)) (sym c.in-Curve.is)))
    (drawn_same _ _ c.curve_stop-stop.result c.args.end _ _ c.draw_towards.ensures
    (λ m low high. ap (λ v. meant.towards v c.in-Curve.until (option_copied c.args.next) (c.args.first + m)) (to_z-of_z _ _ fits ∙ held)
    ∙ sym (curve_held base c.in-Curve.time c.in-Curve.duration c.in-Curve.until c.in-Curve.points (option_copied c.args.next) (c.args.first + m) (omega (arith, ended, low)))
    ∙ ap (λ e. meant.between base (Some e) (option_copied c.args.next) (c.args.first + m)) (sym c.in-Curve.is)))
    c.curve_stop-stop.ensures.within.0
