use Rattle.std.proofs.Common.{rules, ◌≡◌, ◌+◌, ◌-◌, ap, arith}
use Rattle.param_events.specs.Values as meant
use Rattle.param_cursor.proofs.Draws.{drawn_joined, drawn_same}
use Rattle.param_cursor.proofs.drawing.draw_curve.Goals as goal

pub loop-m-preserved : goal.loop-m-preserved
loop-m-preserved c =
    let n = c.args.n in
    let at = c.args.at in
    let m = c.loop-m.m in
    let to = c.draw_curve_segment-m.result in
    let inv = c.loop-m.invariant in
    let up = c.draw_curve_segment-m.ensures.within in (
      drawn_joined _ _ _ at m to _ inv.0 (drawn_same _ _ m to _ _ c.draw_curve_segment-m.ensures.drawn (λ k low high. let e : n + (m - at) + (k - m) ≡ n + (k - at) = omega (arith, inv.1, low) in ap (meant.curve_value c.args.points.now c.args.duration) e)) inv.1,
      omega (arith, inv.1, up.0),
      up.1,
      search rules,
    )
