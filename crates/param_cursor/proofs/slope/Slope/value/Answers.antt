use Rattle.std.proofs.Common.{rules, ap, ◌∙◌, sym, refl, FitsSigned}
use Rattle.std.specs.Int.{w64, int_div_euclid}
use Rattle.std.specs.Prelude.{pos}
use Rattle.std.proofs.lemmas.Int.{to_z-of_z}
use Rattle.param_cursor.specs.Rising.{Rising}
use Rattle.param_events.proofs.Euclid.{euclid_is}
use Rattle.param_cursor.proofs.slope.Slope.value.Goals as goal

pub returns : goal.returns
returns c =
    let fits : FitsSigned w64 c.self.inside.value = search rules in
    to_z-of_z _ _ fits ∙ sym (euclid_is _ c.self.inside.value c.self.inside.rest c.self.inside.divisor c.self.invariant.rest refl) ∙ ap (λ (g : Rising). int_div_euclid g.numerator (pos g.divisor)) c.self.view_is
