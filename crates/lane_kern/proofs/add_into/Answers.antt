use Rattle.std.proofs.Common.{◌≡◌, ◌^◌, ◌+ℤ◌, ◌∙◌, ℤ, FitsSigned, ap, rules, arith, below_more}
use Rattle.std.specs.Int.{w32}
use Rattle.std.proofs.lemmas.Int.{ints, to_z-of_z}
use Rattle.lane_kern.specs.Blocks.{at, IsWithin}
use Rattle.lane_kern.proofs.Made.{adds_more}
use Rattle.lane_kern.proofs.add_into.Goals as goal

pub loop-k-preserved : goal.loop-k-preserved
loop-k-preserved c =
    let k = c.loop-k.k in
    let fits : FitsSigned w32 (at c.args.src.now k) = search rules in
    let is : c.from.result ≡ at c.args.src.now k = c.from.ensures ∙ to_z-of_z _ _ fits in
    let small : IsWithin (2 ^ 31) (at c.args.src.now k) = omega (arith, ints) in
    record {
      sums = adds_more _ k c.args.acc.now c.loop-k.acc c.from.result (omega arith) c.requires.room c.loop-k.invariant.sums
          (ap (λ (x : ℤ). at c.args.acc.now k +ℤ x) is) (omega (arith, ints));
      samples = below_more _ _ c.loop-k.invariant.samples small;
    }
