use Rattle.std.proofs.Common.{◌≡◌, ◌≤◌, ◌<◌, ◌^◌, ◌∙◌, ◌*ℤ◌, ◌≤ℤ◌, rules, pos, FitsSigned, ap, sym, arith}
use Rattle.std.specs.Int.{w128}
use Rattle.std.proofs.lemmas.Int.{to_z-of_z, ints}
use Rattle.wa_base.specs.Numbers.{rnd}
use Rattle.script_fields.proofs.Times.{bounds_at, fits_at, power_bounds}
use Rattle.script_fields.proofs.seconds.frames_at.Goals as goal

rate_fits : (c : goal.After-from-2) → FitsSigned w128 c.from.result
rate_fits c = search rules

power_fits : (c : goal.After-from-2) → FitsSigned w128 c.from-2.result
power_fits c = search rules

product_fits : (c : goal.After-from-2) → FitsSigned w128 (c.args.units *ℤ c.from.result)
product_fits c = fits_at c.args.units c.from.result c.args.rate c.from.ensures c.requires.size (c.ranges.rate.fits)

pub rnd_div-requires-clause-den_low : goal.rnd_div-requires-clause-den_low
rnd_div-requires-clause-den_low c =
    let p = power_bounds c.args.places c.requires.few in
    let h = c.from-2.ensures in
    let k = c.pow.ensures in
    simp (to_z-of_z _ _ (power_fits c)) (omega (arith, ints, p.0))

pub rnd_div-requires-clause-num_low : goal.rnd_div-requires-clause-num_low
rnd_div-requires-clause-num_low c =
    simp (to_z-of_z _ _ c.ranges.units, to_z-of_z _ _ (rate_fits c), to_z-of_z _ _ (product_fits c))
    (bounds_at c.args.units c.from.result c.args.rate c.from.ensures c.requires.size (c.ranges.rate.fits)).0

pub rnd_div-requires-clause-num_high : goal.rnd_div-requires-clause-num_high
rnd_div-requires-clause-num_high c =
    simp (to_z-of_z _ _ c.ranges.units, to_z-of_z _ _ (rate_fits c), to_z-of_z _ _ (product_fits c))
    (bounds_at c.args.units c.from.result c.args.rate c.from.ensures c.requires.size (c.ranges.rate.fits)).1

pub returns : goal.returns
returns c =
    let rate : FitsSigned w128 c.from.result = search rules in
    let power : FitsSigned w128 c.from-2.result = search rules in
    let answer : FitsSigned w128 c.rnd_div.result = search rules in
    let product = fits_at c.args.units c.from.result c.args.rate c.from.ensures c.requires.size (c.ranges.rate.fits) in
    let value = simp (to_z-of_z _ _ c.ranges.units, to_z-of_z _ _ rate, to_z-of_z _ _ product, to_z-of_z _ _ power) at c.rnd_div.ensures in
    to_z-of_z _ _ answer ∙ value ∙ ap (λ r. rnd (c.args.units *ℤ r) c.from-2.result) c.from.ensures
    ∙ ap (λ d. rnd (c.args.units *ℤ pos c.args.rate) d) (c.from-2.ensures ∙ ap pos c.pow.ensures)
