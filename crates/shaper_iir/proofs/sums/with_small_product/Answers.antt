use Rattle.std.proofs.Common.{rules, ◌≡◌, ◌+ℤ◌, ◌*ℤ◌, FitsSigned, refl, arith, ◌∙◌}
use Rattle.std.specs.Int.{w64}
use Rattle.std.proofs.lemmas.Int.{to_z-of_z}
use Rattle.shaper_iir.proofs.Bounds.{fits_64, abs_sum, product_small}
use Rattle.shaper_iir.proofs.sums.with_small_product.Goals as goal

pub returns : goal.returns
returns c =
    let x : c.from.result ≡ c.args.coefficient = c.from.ensures ∙ to_z-of_z _ _ c.ranges.coefficient in
    let y : c.from-2.result ≡ c.args.item = c.from-2.ensures ∙ to_z-of_z _ _ c.ranges.item in
    let wide_x : FitsSigned w64 c.args.coefficient = search rules in
    let wide_y : FitsSigned w64 c.args.item = search rules in
    let small = product_small c.args.coefficient c.args.item c.ranges.coefficient c.ranges.item in
    let product : FitsSigned w64 (c.args.coefficient *ℤ c.args.item) = fits_64 _ (omega (arith, small)) in
    let bound = abs_sum c.args.sum (c.args.coefficient *ℤ c.args.item) in
    let sum : FitsSigned w64 (c.args.sum +ℤ c.args.coefficient *ℤ c.args.item) = fits_64 _ (omega (arith, small, bound, c.requires)) in
    simp (x, y, to_z-of_z _ _ c.ranges.sum, to_z-of_z _ _ wide_x, to_z-of_z _ _ wide_y, to_z-of_z _ _ product, to_z-of_z _ _ sum) refl
