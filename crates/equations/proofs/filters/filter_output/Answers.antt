use Rattle.std.proofs.Common.{rules, ◌-ℤ◌, pos, get_or, FitsSigned, ap, ap₂, ◌∙◌}
use Rattle.std.specs.Int.{w32, w128}
use Rattle.std.proofs.lemmas.Int.{to_z-of_z}
use Rattle.node_table.specs.Filters as filters
use Rattle.shaper_iir.proofs.Dots.{rest_is}
use Rattle.equations.proofs.filters.filter_output.Goals as goal

pub returns : goal.returns
returns c =
    let back = c.args.back.now in
    let ahead : FitsSigned w128 c.dot-ahead.result = search rules in
    let fed_back : FitsSigned w128 c.dot-fed_back.result = search rules in
    let sum : FitsSigned w128 c.difference.result = search rules in
    let divisor : FitsSigned w32 (get_or back 0 (pos 0)) = search rules in
    let y : FitsSigned w32 c.quotient.result = search rules in
    let first = c.dot-ahead.ensures.value in
    let second = c.dot-fed_back.ensures.value ∙ ap (λ cs. filters.dot cs c.args.outputs.now) (rest_is back) in
    let whole = simp (to_z-of_z _ _ ahead, to_z-of_z _ _ fed_back) at c.difference.ensures.value in
    let rounded = simp (to_z-of_z _ _ sum, to_z-of_z _ _ divisor) at c.quotient.ensures in
    to_z-of_z _ _ y ∙ rounded ∙ ap (λ s. filters.quotient s (get_or back 0 (pos 0))) (whole ∙ ap₂ (λ a b. a -ℤ b) first second)
