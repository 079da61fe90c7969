use Rattle.std.proofs.Common.{rules, ◌≡◌, ◌≤◌, ◌+◌, ◌^◌, ◌+ℤ◌, ◌*ℤ◌, FitsSigned, refl, arith, ◌∙◌, to_z, of_z}
use Rattle.std.specs.Int.{w64}
use Rattle.std.specs.Prelude.{unsigned_abs}
use Rattle.std.proofs.lemmas.Int.{to_z-of_z}
use Rattle.convolve.proofs.Bounds.{fits_64, abs_sum, product_small}
use Rattle.convolve.proofs.sums.with_product.Goals as goal

small : (c : goal.After-from-2) → unsigned_abs (c.args.sum +ℤ c.args.tap *ℤ c.args.frame) ≤ unsigned_abs c.args.sum + 2 ^ 56
small c = let p = product_small c.args.tap c.args.frame c.requires.tap c.ranges.frame in let s = abs_sum c.args.sum (c.args.tap *ℤ c.args.frame) in omega (arith, p, s)

-- the code's sum is the exact one
exact : (c : goal.After-from-2)
    → to_z w64 (of_z w64 (to_z w64 (of_z w64 c.args.sum) +ℤ to_z w64 (of_z w64 (to_z w64 (of_z w64 c.from.result) *ℤ to_z w64 (of_z w64 c.from-2.result)))))
    ≡ c.args.sum +ℤ c.args.tap *ℤ c.args.frame
exact c =
    let x : c.from.result ≡ c.args.tap = c.from.ensures ∙ to_z-of_z _ _ c.ranges.tap in
    let y : c.from-2.result ≡ c.args.frame = c.from-2.ensures ∙ to_z-of_z _ _ c.ranges.frame in
    let wide_x : FitsSigned w64 c.args.tap = search rules in
    let wide_y : FitsSigned w64 c.args.frame = search rules in
    let product : FitsSigned w64 (c.args.tap *ℤ c.args.frame) = fits_64 _ (let k = product_small c.args.tap c.args.frame c.requires.tap c.ranges.frame in omega (arith, k)) in
    let sum : FitsSigned w64 (c.args.sum +ℤ c.args.tap *ℤ c.args.frame) = fits_64 _ (let k = small c in omega (arith, k, c.requires.sum)) in
    simp (x, y, to_z-of_z _ _ c.ranges.sum, to_z-of_z _ _ wide_x, to_z-of_z _ _ wide_y, to_z-of_z _ _ product, to_z-of_z _ _ sum) refl

pub returns-clause-value : goal.returns-clause-value
returns-clause-value c = exact c

pub returns-clause-small : goal.returns-clause-small
returns-clause-small c = rw (exact c) (small c)
