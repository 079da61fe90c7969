use Rattle.std.proofs.Common.{◌∙◌, ◌+ℤ◌, ℤ, pos, FitsSigned, ap₂, rules, arith}
use Rattle.std.specs.Int.{w32}
use Rattle.std.proofs.lemmas.Int.{to_z-of_z}
use Rattle.wa_base.specs.Numbers.{rnd}
use Rattle.lane_kern.specs.Blocks.{at}
use Rattle.channel_mix.proofs.Growing.{adds_more}
use Rattle.channel_mix.proofs.kernels.add_halves.Goals as goal

pub loop-k-preserved : goal.loop-k-preserved
loop-k-preserved c =
    let left : FitsSigned w32 (at c.args.left.now c.loop-k.k) = search rules in
    let right : FitsSigned w32 (at c.args.right.now c.loop-k.k) = search rules in
    let value = ap₂ (λ (x y : ℤ). rnd (x +ℤ y) (pos 2)) (to_z-of_z _ _ left) (to_z-of_z _ _ right) in
    adds_more _ c.loop-k.k c.args.sums.now c.loop-k.sums c.half_of.result (omega arith) (omega arith) c.requires.room c.loop-k.invariant
    (c.half_of.ensures.value ∙ value) c.half_of.ensures.small
