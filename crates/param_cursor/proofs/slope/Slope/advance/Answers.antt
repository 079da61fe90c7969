use Rattle.std.proofs.Common.{rules, ◌≤◌, ◌*◌, ◌^◌, FitsSigned, refl, subst, sym}
use Rattle.std.specs.Int.{w64}
use Rattle.std.specs.Prelude.{unsigned_abs}
use Rattle.std.proofs.lemmas.Int.{to_z-of_z}
use Rattle.param_cursor.specs.Rising.{Rising}
use Rattle.param_cursor.proofs.Parts.{quotient_small}
use Rattle.param_cursor.proofs.slope.Slope.advance.Goals as goal

pub raise-requires-clause-whole : goal.raise-requires-clause-whole
raise-requires-clause-whole c =
    let s : FitsSigned w64 c.raise.inside.step = search rules in
    rw (to_z-of_z _ _ s) (quotient_small c.raise.inside.step _ c.raise.inside.step_rest c.raise.inside.divisor refl c.raise.invariant.step_rest (subst (λ (r : Rising). unsigned_abs r.step ≤ 2 ^ 34 * r.divisor) (sym c.raise.view_is) c.requires.step))
