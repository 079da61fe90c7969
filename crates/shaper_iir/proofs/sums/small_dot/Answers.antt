use Rattle.std.proofs.Common.{rules, ◌≡◌, ◌≤◌, ◌^◌, ◌+ℤ◌, ◌*ℤ◌, pos, FitsSigned, ap, sym, subst, add-one, arith, take, get_or, ◌∙◌, ℤ}
use Rattle.std.specs.Int.{w64}
use Rattle.std.specs.Prelude.{unsigned_abs}
use Rattle.std.proofs.lemmas.Int.{to_z-of_z}
use Rattle.node_table.specs.Filters.{dot}
use Rattle.shaper_iir.proofs.Dots.{dot_more}
use Rattle.shaper_iir.proofs.Weights.{prefix_within}
use Rattle.shaper_iir.proofs.sums.small_dot.Goals as goal

pub with_small_product-sum-requires-in-loop-i : goal.with_small_product-sum-requires-in-loop-i
with_small_product-sum-requires-in-loop-i c =
    let bound = prefix_within c.args.coefficients.now c.args.items.now c.loop-i.i (2 ^ 61) c.requires.small in
    subst (λ (z : ℤ). unsigned_abs z ≤ 2 ^ 61) (sym c.loop-i.invariant) bound

pub loop-i-preserved : goal.loop-i-preserved
loop-i-preserved c =
    let fits : FitsSigned w64 c.with_small_product-sum-in-loop-i.result = search rules in
    let cs = c.args.coefficients.now in
    let xs = c.args.items.now in
    let i = c.loop-i.i in
    let value : c.with_small_product-sum-in-loop-i.result ≡ c.loop-i.sum +ℤ get_or cs i (pos 0) *ℤ get_or xs i (pos 0) = search rules in
    let before : c.loop-i.sum ≡ dot (take i cs) xs = search rules in
    to_z-of_z _ _ fits ∙ value ∙ ap (λ (z : ℤ). z +ℤ get_or cs i (pos 0) *ℤ get_or xs i (pos 0)) before
    ∙ sym (dot_more i cs xs (omega arith) (omega arith)) ∙ ap (λ n. dot (take n cs) xs) (sym (add-one i))
