use Rattle.std.proofs.Common.{rules, ◌≡◌, ◌≤◌, ◌+◌, ◌*◌, ◌^◌, ◌+ℤ◌, ◌*ℤ◌, pos, ℤ, FitsSigned, ap, sym, ◌∙◌, arith, take, get_or, to_z}
use Rattle.std.specs.Int.{w128}
use Rattle.std.specs.Prelude.{unsigned_abs}
use Rattle.std.proofs.lemmas.Int.{to_z-of_z}
use Rattle.node_table.specs.Filters.{dot}
use Rattle.equations.proofs.Dots.{dot_more, dot_all}
use Rattle.equations.proofs.filters.dot.Goals as goal

pub loop-i-preserved : goal.loop-i-preserved
loop-i-preserved c =
    let fits : FitsSigned w128 c.with_product-sum.result = search rules in
    let cs = c.args.coefficients.now in
    let xs = c.args.items.now in
    let i = c.loop-i.i in
    let value : c.with_product-sum.result ≡ c.loop-i.sum +ℤ get_or cs i (pos 0) *ℤ get_or xs i (pos 0) = search rules in
    let before : c.loop-i.sum ≡ dot (take i cs) xs = search rules in
    let bound : unsigned_abs c.with_product-sum.result ≤ unsigned_abs c.loop-i.sum + 2 ^ 97 = search rules in
    let so_far : unsigned_abs c.loop-i.sum ≤ i * 2 ^ 97 = search rules in
    record {
      value = to_z-of_z _ _ fits ∙ value ∙ ap (λ (z : ℤ). z +ℤ get_or cs i (pos 0) *ℤ get_or xs i (pos 0)) before ∙ sym (dot_more i cs xs (omega arith) (omega arith));
      small = simp (to_z-of_z _ _ fits) (omega (arith, bound, so_far));
    }

pub returns-clause-value : goal.returns-clause-value
returns-clause-value c =
    let cs = c.args.coefficients.now in
    let xs = c.args.items.now in
    let so_far : to_z w128 c.loop-i.sum-bits ≡ dot (take c.loop-i.i cs) xs = search rules in
    so_far ∙ dot_all c.loop-i.i cs xs (omega arith)
