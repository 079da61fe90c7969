use Rattle.std.proofs.Common.{rules, ◌≡◌, ◌*ℤ◌, pos, FitsSigned, to_z, arith}
use Rattle.std.specs.Int.{w64, w128}
use Rattle.std.proofs.lemmas.Int.{to_z-of_z, ints}
use Rattle.param_cursor.proofs.Parts.{rest_is, product_fits, rest_fits}
use Rattle.param_cursor.proofs.slope.divided_in_128_bits.Goals as goal

pub overflow_cast-result-2 : goal.overflow_cast-result-2
overflow_cast-result-2 c =
    let q = c.div_euclid-quotient.result in
    let wide : FitsSigned w128 q = search rules in
    let divisor : to_z w128 c.args.divisor ≡ pos c.args.divisor = search rules in
    let rest = rest_is c.args.numerator q c.args.divisor c.requires.some (simp (divisor, to_z-of_z _ _ c.ranges.numerator) at c.div_euclid-quotient.ensures) in
    let product = product_fits c.args.numerator (q *ℤ pos c.args.divisor) rest.0 c.args.divisor rest.1 rest.2 c.ranges.divisor.fits c.requires.small in
    let left = rest_fits rest.0 (omega (arith, rest.2, c.ranges.divisor.fits)) in
    simp (divisor, to_z-of_z _ _ c.ranges.numerator, to_z-of_z _ _ wide, to_z-of_z _ _ product, rest.1, to_z-of_z _ _ left) (tt, record { fits = omega (arith, rest.2, c.ranges.divisor.fits) })

pub returns-clause-parts : goal.returns-clause-parts
returns-clause-parts c =
    let q = c.div_euclid-quotient.result in
    let wide : FitsSigned w128 q = search rules in
    let narrow : FitsSigned w64 q = search rules in
    let divisor : to_z w128 c.args.divisor ≡ pos c.args.divisor = search rules in
    let rest = rest_is c.args.numerator q c.args.divisor c.requires.some (simp (divisor, to_z-of_z _ _ c.ranges.numerator) at c.div_euclid-quotient.ensures) in
    let product = product_fits c.args.numerator (q *ℤ pos c.args.divisor) rest.0 c.args.divisor rest.1 rest.2 c.ranges.divisor.fits c.requires.small in
    let left = rest_fits rest.0 (omega (arith, rest.2, c.ranges.divisor.fits)) in
    simp (divisor, to_z-of_z _ _ c.ranges.numerator, to_z-of_z _ _ wide, to_z-of_z _ _ narrow, to_z-of_z _ _ product, rest.1, to_z-of_z _ _ left) (omega (arith, ints, rest.1))
