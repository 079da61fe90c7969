use Rattle.std.proofs.Common.{rules, ◌≤◌, pos, take, get_or, subst, sym, add-one}
use Rattle.std.specs.Prelude.{unsigned_abs}
use Rattle.shaper_iir.specs.Scales.{greatest}
use Rattle.shaper_iir.proofs.Weights.{greatest_more}
use Rattle.shaper_iir.proofs.scales.are_within.Goals as goal

pub loop-sample-preserved : goal.loop-sample-preserved
loop-sample-preserved c =
    let i = c.loop-sample.sample-index in
    let xs = c.args.samples.now in
    let here : unsigned_abs (get_or xs i (pos 0)) ≤ c.args.reach = search rules in
    subst (λ n. greatest (take n xs) ≤ c.args.reach) (sym (add-one i)) (greatest_more xs i c.args.reach (search rules) c.loop-sample.invariant here)
