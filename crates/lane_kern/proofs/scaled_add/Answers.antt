use Rattle.std.proofs.Common.{◌≡◌, ◌^◌, ◌+ℤ◌, ◌*ℤ◌, ◌∙◌, ℤ, FitsSigned, to_z, of_z, ap, rules, arith}
use Rattle.std.specs.Int.{w32, w64}
use Rattle.std.proofs.lemmas.Int.{ints, to_z-of_z}
use Rattle.lane_kern.specs.Blocks.{at}
use Rattle.lane_kern.proofs.Made.{adds_more}
use Rattle.lane_kern.proofs.scaled_add.Goals as goal

pub loop-k-preserved : goal.loop-k-preserved
loop-k-preserved c =
    let k = c.loop-k.k in
    let fits : FitsSigned w32 (at c.args.src.now k) = search rules in
    let sample : to_z w32 (of_z w32 (at c.args.src.now k)) ≡ at c.args.src.now k = to_z-of_z _ _ fits in
    let factor = to_z w64 (of_z w64 c.args.factor) in
    let is : c.product_of.result ≡ at c.args.src.now k *ℤ factor = c.product_of.ensures.value ∙ ap (λ (x : ℤ). x *ℤ factor) sample in
    adds_more _ k c.args.acc.now c.loop-k.acc c.product_of.result (omega arith) c.requires.room c.loop-k.invariant
    (ap (λ (x : ℤ). at c.args.acc.now k +ℤ x) is) c.product_of.ensures.small
