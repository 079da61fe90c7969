use Rattle.std.proofs.Common.{rules, pos, ◌+ℤ◌, ◌*ℤ◌, FitsSigned, ◌∙◌}
use Rattle.std.specs.Int.{w128}
use Rattle.std.proofs.lemmas.Int.{to_z-of_z}
use Rattle.wa_base.proofs.numbers.rnd_div.Goals as goal

pub returns : goal.returns
returns c =
    let double : FitsSigned w128 (pos 2 *ℤ c.args.num) = search rules in
    let total : FitsSigned w128 (pos 2 *ℤ c.args.num +ℤ c.args.den) = search rules in
    let twice : FitsSigned w128 (pos 2 *ℤ c.args.den) = search rules in
    let answer : FitsSigned w128 c.div_euclid.result = search rules in
    let quotient = simp (to_z-of_z _ _ c.ranges.num, to_z-of_z _ _ c.ranges.den, to_z-of_z _ _ double, to_z-of_z _ _ total, to_z-of_z _ _ twice) at c.div_euclid.ensures in
    to_z-of_z _ _ answer ∙ quotient
