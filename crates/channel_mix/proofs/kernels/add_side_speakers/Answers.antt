use Rattle.std.proofs.Common.{◌∙◌, ℤ, FitsSigned, ap, rules, arith}
use Rattle.std.specs.Int.{w32}
use Rattle.std.proofs.lemmas.Int.{to_z-of_z}
use Rattle.wa_base.specs.Numbers.{rnd}
use Rattle.lane_kern.specs.Blocks.{at}
use Rattle.mix_rules.specs.Mixing.{one}
use Rattle.channel_mix.proofs.Growing.{adds_more}
use Rattle.channel_mix.proofs.Weighing.{same_side}
use Rattle.channel_mix.proofs.kernels.add_side_speakers.Goals as goal

pub loop-k-preserved : goal.loop-k-preserved
loop-k-preserved c =
    let k = c.loop-k.k in
    let front : FitsSigned w32 (at c.args.front.now k) = search rules in
    let centre : FitsSigned w32 (at c.args.centre.now k) = search rules in
    let surround : FitsSigned w32 (at c.args.surround.now k) = search rules in
    let read = same_side _ _ _ _ _ _ (to_z-of_z _ _ front) (to_z-of_z _ _ centre) (to_z-of_z _ _ surround) in
    adds_more _ k c.args.sums.now c.loop-k.sums c.side_speakers_of.result (omega arith) (omega arith) c.requires.room c.loop-k.invariant
    (c.side_speakers_of.ensures.value ∙ ap (λ (z : ℤ). rnd z one) read) c.side_speakers_of.ensures.small
