use Rattle.std.proofs.Common.{rules, ◌≡◌, ◌≤◌, ◌+◌, ◌-◌, ◌*◌, ◌^◌, ◌+ℤ◌, FitsSigned, ◌∙◌, length, take, drop, arith}
use Rattle.std.specs.Int.{w128}
use Rattle.std.specs.Prelude.{min, unsigned_abs}
use Rattle.std.proofs.lemmas.Int.{to_z-of_z}
use Rattle.node_table.specs.Filters.{dot}
use Rattle.convolve.proofs.Bounds.{abs_of_sum}
use Rattle.convolve.proofs.Dots.{group_more}
use Rattle.convolve.proofs.sums.dot.Goals as goal

pub loop-group-preserved : goal.loop-group-preserved
loop-group-preserved c =
    let fits : FitsSigned w128 c.with_group-sum.result = search rules in
    let cs = c.args.response.now in
    let xs = c.args.frames.now in
    let groups = c.loop-group.group in
    let end = c.min-end.result in
    let shorter : end ≡ min (groups * 64 + 64) (length cs) = search rules in
    let end_is : end ≡ min ((groups + 1) * 64) (length cs) = omega (arith, shorter) in
    let low : groups * 64 ≤ end = omega arith in
    let next_is : c.with_group-sum.result ≡ c.loop-group.sum +ℤ c.group_dot.result = search rules in
    let before : c.loop-group.sum ≡ dot (take (groups * 64) cs) xs = search rules in
    let part_is : c.group_dot.result ≡ dot (take (end - groups * 64) (drop (groups * 64) cs)) (take (end - groups * 64) (drop (groups * 64) xs)) = search rules in
    let part_small : unsigned_abs c.group_dot.result ≤ 2 ^ 62 = search rules in
    let so_far : unsigned_abs c.loop-group.sum ≤ groups * 2 ^ 62 = search rules in
    let bound = abs_of_sum c.with_group-sum.result c.loop-group.sum c.group_dot.result next_is in
    record {
      value = to_z-of_z _ _ fits ∙ group_more groups end cs xs c.loop-group.sum c.group_dot.result c.with_group-sum.result end_is low before part_is next_is;
      small = simp (to_z-of_z _ _ fits) (omega (arith, bound, part_small, so_far));
    }
