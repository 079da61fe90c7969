use Rattle.std.proofs.Common.{rules, ◌≡◌, ◌≤◌, ◌+◌, ◌*◌, ◌^◌, ◌+ℤ◌, ◌*ℤ◌, pos, ℤ, FitsSigned, ap, sym, ◌∙◌, arith, take, get_or}
use Rattle.std.specs.Int.{w64}
use Rattle.std.specs.Prelude.{unsigned_abs}
use Rattle.std.proofs.lemmas.Int.{to_z-of_z}
use Rattle.node_table.specs.Filters.{dot}
use Rattle.convolve.proofs.Dots.{dot_more}
use Rattle.convolve.proofs.sums.group_dot.Goals as goal

pub loop-m-preserved : goal.loop-m-preserved
loop-m-preserved c =
    let fits : FitsSigned w64 c.with_product-sum.result = search rules in
    let cs = c.args.taps.now in
    let xs = c.args.frames.now in
    let m = c.loop-m.m in
    let value : c.with_product-sum.result ≡ c.loop-m.sum +ℤ get_or cs m (pos 0) *ℤ get_or xs m (pos 0) = search rules in
    let before : c.loop-m.sum ≡ dot (take m cs) xs = search rules in
    let bound : unsigned_abs c.with_product-sum.result ≤ unsigned_abs c.loop-m.sum + 2 ^ 56 = search rules in
    let so_far : unsigned_abs c.loop-m.sum ≤ m * 2 ^ 56 = search rules in
    record {
      value = to_z-of_z _ _ fits ∙ value ∙ ap (λ (z : ℤ). z +ℤ get_or cs m (pos 0) *ℤ get_or xs m (pos 0)) before ∙ sym (dot_more m cs xs (omega arith) (omega arith));
      small = simp (to_z-of_z _ _ fits) (omega (arith, bound, so_far));
    }
