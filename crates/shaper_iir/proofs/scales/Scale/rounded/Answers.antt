use Rattle.std.proofs.Common.{rules, ◌+◌, ◌*◌, ◌^◌, ◌*ℤ◌, pos, FitsSigned, ap, ◌∙◌, arith}
use Rattle.std.specs.Int.{w64, int_div_euclid}
use Rattle.std.proofs.lemmas.Int.{to_z-of_z, ints}
use Rattle.shaper_iir.proofs.Shifts.{rounded_by_shift, shifted_fits}
use Rattle.shaper_iir.proofs.scales.Scale.rounded.Goals as goal

pub overflow_add-result : goal.overflow_add-result
overflow_add-result c = let p = c.requires.divisor.power c.in-Some.bits c.in-Some.is in record { fits = omega (arith, p.0) }

pub overflow_shr-result : goal.overflow_shr-result
overflow_shr-result c = let p = c.requires.divisor.power c.in-Some.bits c.in-Some.is in omega (arith, p.0)

pub returns-in-Some : goal.returns-in-Some
returns-in-Some c =
    let p = c.requires.divisor.power c.in-Some.bits c.in-Some.is in
    let numerator : FitsSigned w64 c.doubled-numerator.result = search rules in
    let is = simp (to_z-of_z _ _ c.ranges.sum) at c.doubled-numerator.ensures in
    let value = rounded_by_shift c.args.sum c.doubled-numerator.result c.args.self.now.divisor c.in-Some.bits is p.1 in
    let fits = shifted_fits c.doubled-numerator.result (2 ^ (c.in-Some.bits + 1)) numerator in
    simp (to_z-of_z _ _ numerator) (to_z-of_z _ _ fits ∙ value)

pub returns-in-None : goal.returns-in-None
returns-in-None c =
    let numerator : FitsSigned w64 c.doubled-numerator.result = search rules in
    let is = simp (to_z-of_z _ _ c.ranges.sum) at c.doubled-numerator.ensures in
    let answer : FitsSigned w64 c.div_euclid.result = search rules in
    let high = c.requires.divisor.high in
    let divisor : FitsSigned w64 (pos c.args.self.now.divisor) = record { sfits = omega (arith, ints, high) } in
    let twice : FitsSigned w64 (pos 2 *ℤ pos c.args.self.now.divisor) = record { sfits = omega (arith, ints, high) } in
    let value = simp (c.from.ensures, to_z-of_z _ _ numerator, to_z-of_z _ _ divisor, to_z-of_z _ _ twice) at c.div_euclid.ensures in
    to_z-of_z _ _ answer ∙ value ∙ ap (λ z. int_div_euclid z (pos (2 * c.args.self.now.divisor))) is
