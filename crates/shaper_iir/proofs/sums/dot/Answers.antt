use Rattle.std.proofs.Common.{rules, ◌≡◌, ◌≤◌, ◌+◌, ◌*◌, ◌^◌, ◌+ℤ◌, ◌*ℤ◌, pos, FitsSigned, arith, drop, get_or}
use Rattle.std.specs.Int.{w128}
use Rattle.std.specs.Prelude.{unsigned_abs}
use Rattle.std.proofs.lemmas.Int.{to_z-of_z}
use Rattle.node_table.specs.Filters.{dot}
use Rattle.shaper_iir.proofs.Dots.{dot_next, added}
use Rattle.shaper_iir.proofs.sums.dot.Goals as goal

pub loop-i-preserved : goal.loop-i-preserved
loop-i-preserved c =
    let fits : FitsSigned w128 c.with_product-sum.result = search rules in
    let cs = c.args.coefficients.now in
    let xs = c.args.items.now in
    let i = c.loop-i.i in
    let value : c.with_product-sum.result ≡ c.loop-i.sum +ℤ get_or cs i (pos 0) *ℤ get_or xs i (pos 0) = search rules in
    let before : c.loop-i.sum +ℤ dot (drop i cs) (drop i xs) ≡ dot cs xs = search rules in
    let bound : unsigned_abs c.with_product-sum.result ≤ unsigned_abs c.loop-i.sum + 2 ^ 62 = search rules in
    let so_far : unsigned_abs c.loop-i.sum ≤ i * 2 ^ 62 = search rules in
    record {
      rest = simp (to_z-of_z _ _ fits) (added (dot cs xs) c.loop-i.sum c.with_product-sum.result _ (get_or cs i (pos 0) *ℤ get_or xs i (pos 0)) (dot (drop (i + 1) cs) (drop (i + 1) xs)) value (dot_next i cs xs (omega arith) (omega arith)) before);
      small = simp (to_z-of_z _ _ fits) (omega (arith, bound, so_far));
    }
