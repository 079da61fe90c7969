use Rattle.std.proofs.Common.{◌*ℤ◌, ◌∙◌, FitsSigned, ap, sym, rules}
use Rattle.std.specs.Int.{w64}
use Rattle.std.proofs.lemmas.Int.{to_z-of_z}
use Rattle.wa_base.specs.Numbers.{sat}
use Rattle.wa_base.proofs.Rounding.{rnd_by_shift, shifted_fits}
use Rattle.quantum_blocks.proofs.Attenuating.{abs_below, rounded_fits, sat_same, product_fits, with_half_fits}
use Rattle.quantum_blocks.proofs.kernels.attenuated.Goals as goal

pub overflow_cast-result-2 : goal.overflow_cast-result-2
overflow_cast-result-2 c =
    let wide_x : FitsSigned w64 c.args.value = search rules in
    let wide_g : FitsSigned w64 c.args.gain = search rules in
    let product = c.args.value *ℤ c.args.gain in
    let below = abs_below _ _ c.ranges.value c.requires in
    let x_is = c.from.ensures ∙ to_z-of_z _ _ c.ranges.value in
    let g_is = c.from-2.ensures ∙ to_z-of_z _ _ c.ranges.gain in
    let with_half = with_half_fits product below in
    rw x_is (rw g_is (rw (to_z-of_z _ _ wide_x) (rw (to_z-of_z _ _ wide_g) (rw (to_z-of_z _ _ (product_fits product below)) (rw (to_z-of_z _ _ with_half) (rw (to_z-of_z _ _ (shifted_fits _ with_half)) (rounded_fits product below)))))))

pub returns : goal.returns
returns c =
    let wide_x : FitsSigned w64 c.args.value = search rules in
    let wide_g : FitsSigned w64 c.args.gain = search rules in
    let product = c.args.value *ℤ c.args.gain in
    let below = abs_below _ _ c.ranges.value c.requires in
    let x_is = c.from.ensures ∙ to_z-of_z _ _ c.ranges.value in
    let g_is = c.from-2.ensures ∙ to_z-of_z _ _ c.ranges.gain in
    let with_half = with_half_fits product below in
    let fits = rounded_fits product below in
    let is = to_z-of_z _ _ fits ∙ sym (sat_same _ fits) ∙ ap sat (sym (rnd_by_shift product)) in
    rw x_is (rw g_is (rw (to_z-of_z _ _ wide_x) (rw (to_z-of_z _ _ wide_g) (rw (to_z-of_z _ _ (product_fits product below)) (rw (to_z-of_z _ _ with_half) (rw (to_z-of_z _ _ (shifted_fits _ with_half)) is))))))
