use Rattle.std.proofs.Common.{rules, ◌*ℤ◌, pos, FitsSigned, ap, ◌∙◌, sym}
use Rattle.std.specs.Prelude.{unsigned_abs}
use Rattle.std.specs.Int.{w64, int_max}
use Rattle.std.proofs.lemmas.Int.{to_z-of_z}
use Rattle.wa_base.proofs.Rounding.{rnd_by_shift, shifted_fits}
use Rattle.node_table.proofs.Frames.{abs_of_product, product_fits, with_half_fits, rate_fits}
use Rattle.node_table.proofs.delays.frames_of.Goals as goal

pub returns : goal.returns
returns c =
    let product = c.args.seconds *ℤ pos c.args.rate in
    let small = abs_of_product _ _ c.ranges.seconds c.ranges.rate.fits in
    let wide_seconds : FitsSigned w64 c.args.seconds = search rules in
    let wide_rate = rate_fits c.args.rate c.ranges.rate.fits in
    let seconds_is = c.from.ensures ∙ to_z-of_z _ _ c.ranges.seconds in
    let with_half = with_half_fits product small in
    let fits : FitsSigned w64 c.max.result = search rules in
    let most = simp (seconds_is, c.from-2.ensures, to_z-of_z _ _ wide_seconds, to_z-of_z _ _ wide_rate, to_z-of_z _ _ (product_fits product small), to_z-of_z _ _ with_half, to_z-of_z _ _ (shifted_fits _ with_half)) at c.max.ensures.value in
    c.unsigned_abs.ensures.value ∙ ap unsigned_abs (to_z-of_z _ _ fits ∙ most ∙ ap (λ z. int_max z (pos 0)) (sym (rnd_by_shift product)))
