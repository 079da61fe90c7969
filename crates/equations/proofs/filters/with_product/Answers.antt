use Rattle.std.proofs.Common.{rules, ◌≡◌, ◌≤◌, ◌+◌, ◌^◌, ◌+ℤ◌, ◌*ℤ◌, FitsSigned, refl, arith, ◌∙◌, to_z, of_z}
use Rattle.std.specs.Int.{w128}
use Rattle.std.specs.Prelude.{unsigned_abs}
use Rattle.std.proofs.lemmas.Int.{to_z-of_z}
use Rattle.equations.proofs.Bounds.{fits_128, abs_sum, product_small}
use Rattle.equations.proofs.filters.with_product.Goals as goal

small : (c : goal.After-from-2) → unsigned_abs (c.args.sum +ℤ c.args.coefficient *ℤ c.args.item) ≤ unsigned_abs c.args.sum + 2 ^ 97
small c = let p = product_small c.args.coefficient c.args.item c.requires.coefficient c.ranges.item in let s = abs_sum c.args.sum (c.args.coefficient *ℤ c.args.item) in omega (arith, p, s)

-- the code's sum is the exact one
exact : (c : goal.After-from-2)
    → to_z w128 (of_z w128 (to_z w128 (of_z w128 c.args.sum) +ℤ to_z w128 (of_z w128 (to_z w128 (of_z w128 c.from.result) *ℤ to_z w128 (of_z w128 c.from-2.result)))))
    ≡ c.args.sum +ℤ c.args.coefficient *ℤ c.args.item
exact c =
    let x : c.from.result ≡ c.args.coefficient = c.from.ensures ∙ to_z-of_z _ _ c.ranges.coefficient in
    let y : c.from-2.result ≡ c.args.item = c.from-2.ensures ∙ to_z-of_z _ _ c.ranges.item in
    let wide_x : FitsSigned w128 c.args.coefficient = search rules in
    let wide_y : FitsSigned w128 c.args.item = search rules in
    let product : FitsSigned w128 (c.args.coefficient *ℤ c.args.item) = fits_128 _ (let k = product_small c.args.coefficient c.args.item c.requires.coefficient c.ranges.item in omega (arith, k)) in
    let sum : FitsSigned w128 (c.args.sum +ℤ c.args.coefficient *ℤ c.args.item) = fits_128 _ (let k = small c in omega (arith, k, c.requires.sum)) in
    simp (x, y, to_z-of_z _ _ c.ranges.sum, to_z-of_z _ _ wide_x, to_z-of_z _ _ wide_y, to_z-of_z _ _ product, to_z-of_z _ _ sum) refl

pub returns-clause-value : goal.returns-clause-value
returns-clause-value c = exact c

pub returns-clause-small : goal.returns-clause-small
returns-clause-small c = rw (exact c) (small c)
