use Rattle.std.proofs.Common.{rules, pos, ◌≡◌, ◌≤◌, ◌<◌, ◌+◌, ◌-◌, ◌*◌, ◌/◌, length, get_or, FitsSigned, sym, ◌∙◌, arith}
use Rattle.std.specs.Int.{w32}
use Rattle.std.proofs.lemmas.Int.{to_z-of_z}
use Rattle.param_cursor.proofs.Draws.{drawn_same, curve_at, curve_past, past_more, part_within}
use Rattle.param_cursor.proofs.drawing.draw_curve_segment.Goals as goal

pub returns-then-last-k-clause-drawn : goal.returns-then-last-k-clause-drawn
returns-then-last-k-clause-drawn c =
    let points = c.args.points.now in
    let fits : FitsSigned w32 (get_or points (length points - 1) (pos 0)) = search rules in
    drawn_same _ _ c.args.at c.args.end _ _ c.draw_level.ensures
    (λ m low high. to_z-of_z _ _ fits ∙ sym (curve_past points c.args.duration (c.args.n + (m - c.args.at)) (past_more points c.args.duration c.args.n (m - c.args.at) c.requires.lasts c.if-last-k.true)))

pub returns-clause-drawn : goal.returns-clause-drawn
returns-clause-drawn c =
    let points = c.args.points.now in
    let last = length points - 1 in
    let k = last * c.args.n / c.args.duration in
    let part = last * c.args.n - k * c.args.duration in
    let a : FitsSigned w32 (get_or points k (pos 0)) = search rules in
    let b : FitsSigned w32 (get_or points (k + 1) (pos 0)) = search rules in
    let stop = c.stop_after-stop.ensures in
    let small : part < c.args.duration = omega (arith, c.requires.lasts) in
    drawn_same _ _ c.args.at c.stop_after-stop.result _ _ c.draw_segment.ensures
    (λ m low high.
    let j = m - c.args.at in
    let near : j ≤ (c.args.duration - part - 1) / last = omega (arith, stop.count, high, low) in
    let inside = part_within c.args.duration part last j (omega (arith, c.requires.has_points)) small near in
    let sum : last * (c.args.n + j) ≡ k * c.args.duration + (part + last * j) = omega arith in
    simp (to_z-of_z _ _ a, to_z-of_z _ _ b) (sym (curve_at points c.args.duration (c.args.n + j) k (part + last * j) inside sum (omega (arith, c.if-last-k.false)))))
