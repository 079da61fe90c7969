use Rattle.std.proofs.Common.{rules, ◌≡◌, ◌+◌, ◌-◌, ◌*◌, ◌/◌, ◌%◌, ℕ, pos, length, get_or, FitsSigned, ap, ◌∙◌, arith}
use Rattle.std.specs.Int.{w32}
use Rattle.std.proofs.lemmas.Int.{to_z-of_z}
use Rattle.node_table.specs.Curves.{between}
use Rattle.shaper_iir.proofs.curves.on_way.Goals as goal

left_over : (p : ℕ) → p % 33554432 ≡ p - p / 33554432 * 33554432
left_over p = omega arith

pub returns : goal.returns
returns c =
    let points = c.args.points.now in
    let p = (length points - 1) * c.args.at in
    let k = p / 33554432 in
    let near : FitsSigned w32 (get_or points k (pos 0)) = search rules in
    let far : FitsSigned w32 (get_or points (k + 1) (pos 0)) = search rules in
    let y : FitsSigned w32 c.between.result = search rules in
    let value = simp (c.from.ensures, c.from-2.ensures, c.from-3.ensures, to_z-of_z _ _ near, to_z-of_z _ _ far) at c.between.ensures in
    to_z-of_z _ _ y ∙ value ∙ ap (λ n. between (get_or points k (pos 0)) (get_or points (k + 1) (pos 0)) n 33554432) (left_over p)
