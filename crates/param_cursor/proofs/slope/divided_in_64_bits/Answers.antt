use Rattle.std.proofs.Common.{rules, ◌≡◌, ◌+ℤ◌, ◌*ℤ◌, pos, FitsSigned, ap, ◌∙◌}
use Rattle.std.specs.Int.{w64, int_div_euclid, int_rem_euclid}
use Rattle.std.specs.Prelude.{unsigned_abs}
use Rattle.std.proofs.lemmas.Int.{to_z-of_z}
use Rattle.param_cursor.proofs.Parts.{euclid_parts}
use Rattle.param_cursor.proofs.slope.divided_in_64_bits.Goals as goal

pub returns-clause-parts : goal.returns-clause-parts
returns-clause-parts c =
    let n = c.args.numerator in
    let d = c.args.divisor in
    let long : FitsSigned w64 c.div_euclid-quotient.result = search rules in
    let short : FitsSigned w64 c.rem_euclid-rest.result = search rules in
    let quotient : c.div_euclid-quotient.result ≡ int_div_euclid n d = simp (to_z-of_z _ _ c.ranges.numerator, to_z-of_z _ _ c.ranges.divisor) at c.div_euclid-quotient.ensures in
    let rest : c.rem_euclid-rest.result ≡ int_rem_euclid n d = simp (to_z-of_z _ _ c.ranges.numerator, to_z-of_z _ _ c.ranges.divisor) at c.rem_euclid-rest.ensures.value in
    rw (to_z-of_z _ _ long) (rw (to_z-of_z _ _ short)
    (ap (λ q. q *ℤ d +ℤ pos (unsigned_abs c.rem_euclid-rest.result)) quotient ∙ ap (λ r. int_div_euclid n d *ℤ d +ℤ pos (unsigned_abs r)) rest ∙ euclid_parts n d c.requires))
