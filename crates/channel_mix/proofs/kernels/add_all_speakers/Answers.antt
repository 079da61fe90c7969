use Rattle.std.proofs.Common.{◌≡◌, ◌^◌, ◌+ℤ◌, ◌∙◌, ℤ, pos, get_or, FitsSigned, to_z, of_z, ap, rules, arith}
use Rattle.std.specs.Int.{w32, w64}
use Rattle.std.proofs.lemmas.Int.{ints, to_z-of_z}
use Rattle.std.proofs.lemmas.List.Elements.{All-get_or}
use Rattle.wa_base.specs.Numbers.{rnd}
use Rattle.lane_kern.specs.Blocks.{at, IsWithin}
use Rattle.mix_rules.specs.Mixing.{one}
use Rattle.channel_mix.proofs.Growing.{adds_more}
use Rattle.channel_mix.proofs.Weighing.{same_five}
use Rattle.channel_mix.proofs.kernels.add_all_speakers.Goals as goal

room_is_left : (old now v : ℤ) → now ≡ old → IsWithin (2 ^ 47) old → IsWithin (2 ^ 34) v → FitsSigned w64 (to_z w64 (of_z w64 now) +ℤ to_z w64 (of_z w64 v))
room_is_left old now v same room small = omega (arith, ints)

pub overflow_add-sum : goal.overflow_add-sum
overflow_add-sum c =
    let k = c.loop-k.k in
    let old = c.args.sums.now in
    room_is_left (get_or old k (pos 0)) (get_or c.loop-k.sums k (pos 0)) c.all_speakers_of.result (c.loop-k.invariant.rest k (omega arith))
    (All-get_or (IsWithin (2 ^ 47)) old k (pos 0) (omega arith) c.requires.room) c.all_speakers_of.ensures.small

pub loop-k-preserved : goal.loop-k-preserved
loop-k-preserved c =
    let k = c.loop-k.k in
    let l : FitsSigned w32 (at c.args.l.now k) = search rules in
    let r : FitsSigned w32 (at c.args.r.now k) = search rules in
    let centre : FitsSigned w32 (at c.args.c.now k) = search rules in
    let sl : FitsSigned w32 (at c.args.sl.now k) = search rules in
    let sr : FitsSigned w32 (at c.args.sr.now k) = search rules in
    let read = same_five _ _ _ _ _ _ _ _ _ _ (to_z-of_z _ _ l) (to_z-of_z _ _ r) (to_z-of_z _ _ centre) (to_z-of_z _ _ sl) (to_z-of_z _ _ sr) in
    adds_more _ k c.args.sums.now c.loop-k.sums c.all_speakers_of.result (omega arith) (omega arith) c.requires.room c.loop-k.invariant
    (c.all_speakers_of.ensures.value ∙ ap (λ (z : ℤ). rnd z one) read) c.all_speakers_of.ensures.small
