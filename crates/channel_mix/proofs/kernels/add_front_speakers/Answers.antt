use Rattle.std.proofs.Common.{◌∙◌, ℤ, FitsSigned, ap₂, rules, arith}
use Rattle.std.specs.Int.{w32}
use Rattle.std.proofs.lemmas.Int.{to_z-of_z}
use Rattle.wa_base.specs.Numbers.{rnd}
use Rattle.lane_kern.specs.Blocks.{at}
use Rattle.mix_rules.specs.Mixing.{one}
use Rattle.channel_mix.specs.Outputs.{front_speakers}
use Rattle.channel_mix.proofs.Growing.{adds_more}
use Rattle.channel_mix.proofs.kernels.add_front_speakers.Goals as goal

pub loop-k-preserved : goal.loop-k-preserved
loop-k-preserved c =
    let k = c.loop-k.k in
    let front : FitsSigned w32 (at c.args.front.now k) = search rules in
    let centre : FitsSigned w32 (at c.args.centre.now k) = search rules in
    let read = ap₂ (λ (x y : ℤ). rnd (front_speakers x y) one) (to_z-of_z _ _ front) (to_z-of_z _ _ centre) in
    adds_more _ k c.args.sums.now c.loop-k.sums c.front_speakers_of.result (omega arith) (omega arith) c.requires.room c.loop-k.invariant
    (c.front_speakers_of.ensures.value ∙ read) c.front_speakers_of.ensures.small
