use Rattle.std.proofs.Common.{rules, ◌≡◌, ◌≤◌, ◌/◌, ◌*◌, ◌^◌, ◌+ℤ◌, ◌*ℤ◌, pos, FitsSigned, ap₂, subst, sym, ◌∙◌, arith, to_z}
use Rattle.std.specs.Int.{w128}
use Rattle.std.specs.Prelude.{unsigned_abs}
use Rattle.std.proofs.lemmas.Int.{to_z-of_z}
use Rattle.param_cursor.specs.Rising.{Rising}
use Rattle.param_cursor.proofs.Draws.{share_small, gain_small}
use Rattle.param_cursor.proofs.drawing.share_from.Goals as goal

pub new-requires-clause-numerator : goal.new-requires-clause-numerator
new-requires-clause-numerator c =
    let half : to_z w128 (c.args.parts / 2) ≡ pos (c.args.parts / 2) = search rules in
    let wide : FitsSigned w128 c.times-start.result = search rules in
    let sum : FitsSigned w128 (c.times-start.result +ℤ pos (c.args.parts / 2)) = search rules in
    let start = simp (to_z-of_z _ _ c.ranges.rise) at c.times-start.ensures.value in
    simp (half, to_z-of_z _ _ wide, to_z-of_z _ _ sum)
    (subst (λ z. unsigned_abs (z +ℤ pos (c.args.parts / 2)) ≤ 2 ^ 34 * c.args.parts) (sym start) (share_small c.args.rise c.args.n c.args.gain c.args.parts c.requires.small c.requires.within))

pub new-requires-clause-step : goal.new-requires-clause-step
new-requires-clause-step c =
    let wide : FitsSigned w128 c.times-step.result = search rules in
    let step = simp (to_z-of_z _ _ c.ranges.rise) at c.times-step.ensures.value in
    let small = gain_small c.args.rise c.args.gain c.args.parts c.requires.small c.requires.gain in
    let enough : unsigned_abs (c.args.rise *ℤ pos c.args.gain) ≤ 2 ^ 34 * c.args.parts = omega (arith, small) in
    simp (to_z-of_z _ _ wide) (subst (λ z. unsigned_abs z ≤ 2 ^ 34 * c.args.parts) (sym step) enough)

pub returns : goal.returns
returns c =
    let half : to_z w128 (c.args.parts / 2) ≡ pos (c.args.parts / 2) = search rules in
    let wide : FitsSigned w128 c.times-start.result = search rules in
    let sum : FitsSigned w128 (c.times-start.result +ℤ pos (c.args.parts / 2)) = search rules in
    let wide_step : FitsSigned w128 c.times-step.result = search rules in
    let start = simp (to_z-of_z _ _ c.ranges.rise) at c.times-start.ensures.value in
    let step = simp (to_z-of_z _ _ c.ranges.rise) at c.times-step.ensures.value in
    simp (half, to_z-of_z _ _ wide, to_z-of_z _ _ sum, to_z-of_z _ _ wide_step) at c.new.ensures
    ∙ ap₂ (λ x y. let r : Rising = record { numerator = x +ℤ pos (c.args.parts / 2); step = y; divisor = c.args.parts } in r) start step
