use Rattle.std.proofs.Common.{◌∙◌, ◌+ℤ◌, ℤ, pos, FitsSigned, ap₂, rules, arith}
use Rattle.std.specs.Int.{w32}
use Rattle.std.proofs.lemmas.Int.{to_z-of_z}
use Rattle.wa_base.specs.Numbers.{rnd}
use Rattle.lane_kern.specs.Blocks.{at}
use Rattle.channel_mix.proofs.Growing.{adds_more}
use Rattle.channel_mix.proofs.kernels.add_quarters.Goals as goal

pub loop-k-preserved : goal.loop-k-preserved
loop-k-preserved c =
    let l : FitsSigned w32 (at c.args.l.now c.loop-k.k) = search rules in
    let r : FitsSigned w32 (at c.args.r.now c.loop-k.k) = search rules in
    let sl : FitsSigned w32 (at c.args.sl.now c.loop-k.k) = search rules in
    let sr : FitsSigned w32 (at c.args.sr.now c.loop-k.k) = search rules in
    let front = ap₂ (λ (x y : ℤ). x +ℤ y) (to_z-of_z _ _ l) (to_z-of_z _ _ r) in
    let surround = ap₂ (λ (x y : ℤ). x +ℤ y) (to_z-of_z _ _ sl) (to_z-of_z _ _ sr) in
    let value = ap₂ (λ (x y : ℤ). rnd (x +ℤ y) (pos 4)) front surround in
    adds_more _ c.loop-k.k c.args.sums.now c.loop-k.sums c.quarter_of.result (omega arith) (omega arith) c.requires.room c.loop-k.invariant
    (c.quarter_of.ensures.value ∙ value) c.quarter_of.ensures.small
