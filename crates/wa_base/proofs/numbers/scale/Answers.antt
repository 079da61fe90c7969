use Rattle.std.proofs.Common.{rules, ◌*ℤ◌, FitsSigned, ap, ◌∙◌, sym}
use Rattle.std.specs.Int.{w32, w64}
use Rattle.std.proofs.lemmas.Int.{to_z-of_z}
use Rattle.wa_base.specs.Numbers as numbers
use Rattle.wa_base.proofs.Rounding.{rnd_by_shift, abs_of_product, product_fits, with_half_fits, shifted_fits}
use Rattle.wa_base.proofs.numbers.scale.Goals as goal

pub returns : goal.returns
returns c =
    let product = c.args.x *ℤ c.args.g in
    let small = abs_of_product _ _ c.ranges.x c.ranges.g in
    let wide_x : FitsSigned w64 c.args.x = search rules in
    let wide_g : FitsSigned w64 c.args.g = search rules in
    let answer : FitsSigned w32 c.sat.result = search rules in
    let x_is = c.from.ensures ∙ to_z-of_z _ _ c.ranges.x in
    let g_is = c.from-2.ensures ∙ to_z-of_z _ _ c.ranges.g in
    let with_half = with_half_fits product small in
    let saturated = simp (x_is, g_is, to_z-of_z _ _ wide_x, to_z-of_z _ _ wide_g, to_z-of_z _ _ (product_fits product small), to_z-of_z _ _ with_half, to_z-of_z _ _ (shifted_fits _ with_half)) at c.sat.ensures in
    to_z-of_z _ _ answer ∙ saturated ∙ ap numbers.sat (sym (rnd_by_shift product))
