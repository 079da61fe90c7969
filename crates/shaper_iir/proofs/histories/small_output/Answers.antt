use Rattle.std.proofs.Common.{rules, ◌^◌, ◌-ℤ◌, pos, get_or, FitsSigned, ap, ap₂, ◌∙◌, drop, arith}
use Rattle.std.specs.Int.{w32, w64}
use Rattle.std.specs.Prelude.{unsigned_abs}
use Rattle.std.proofs.lemmas.Int.{to_z-of_z}
use Rattle.node_table.specs.Filters as filters
use Rattle.shaper_iir.proofs.Dots.{rest_is}
use Rattle.shaper_iir.proofs.Shifts.{quotient_is}
use Rattle.shaper_iir.proofs.Weights.{both_small}
use Rattle.shaper_iir.proofs.histories.small_output.Goals as goal

pub small_difference-requires : goal.small_difference-requires
small_difference-requires c =
    let ahead : FitsSigned w64 c.small_dot-ahead.result = search rules in
    let fed_back : FitsSigned w64 c.small_dot-fed_back.result = search rules in
    let s = c.requires.small in
    let bound = both_small c.args.forward.now (drop 1 c.args.back.now) c.args.inputs.now c.args.outputs.now c.args.scale.now.reach (2 ^ 61) c.requires.scale.room s.inputs_small s.outputs_small in
    let first = ap unsigned_abs c.small_dot-ahead.ensures in
    let second = ap unsigned_abs (c.small_dot-fed_back.ensures ∙ ap (λ cs. filters.dot cs c.args.outputs.now) (rest_is c.args.back.now)) in
    simp (to_z-of_z _ _ ahead, to_z-of_z _ _ fed_back) (omega (arith, first, second, bound))

pub returns : goal.returns
returns c =
    let ahead : FitsSigned w64 c.small_dot-ahead.result = search rules in
    let fed_back : FitsSigned w64 c.small_dot-fed_back.result = search rules in
    let sum : FitsSigned w64 c.small_difference.result = search rules in
    let y : FitsSigned w32 c.quotient.result = search rules in
    let whole = simp (to_z-of_z _ _ ahead, to_z-of_z _ _ fed_back) at c.small_difference.ensures.value in
    let rounded = simp (to_z-of_z _ _ sum) at c.quotient.ensures in
    let second = c.small_dot-fed_back.ensures ∙ ap (λ cs. filters.dot cs c.args.outputs.now) (rest_is c.args.back.now) in
    to_z-of_z _ _ y ∙ rounded ∙ quotient_is c.args.scale.now c.args.forward.now c.args.back.now c.small_difference.result c.requires.scale
    ∙ ap (λ s. filters.quotient s (get_or c.args.back.now 0 (pos 0))) (whole ∙ ap₂ (λ a b. a -ℤ b) c.small_dot-ahead.ensures second)
