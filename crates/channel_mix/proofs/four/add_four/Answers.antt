use Rattle.std.proofs.Common.{◌∙◌, ◌^◌, ◌+ℤ◌, ℤ, pos, FitsSigned, ap₂, rules, arith}
use Rattle.std.specs.Int.{w32}
use Rattle.std.proofs.lemmas.Int.{ints, to_z-of_z}
use Rattle.std.proofs.lemmas.List.Elements.{All-get_or}
use Rattle.lane_kern.specs.Blocks.{at, IsWithin}
use Rattle.channel_mix.proofs.Growing.{adds_more}
use Rattle.channel_mix.proofs.four.add_four.Goals as goal

pub overflow_add-sum : goal.overflow_add-sum
overflow_add-sum c =
    let room = All-get_or (IsWithin (2 ^ 47)) c.args.sums.now c.loop-k.k (pos 0) (omega arith) c.requires.room in
    let same = c.loop-k.invariant.rest c.loop-k.k (omega arith) in
    let small = c.sum_of.ensures.small in
    omega (arith, ints, room, same, small)

pub loop-k-preserved : goal.loop-k-preserved
loop-k-preserved c =
    let first : FitsSigned w32 (at c.args.four.first.now c.loop-k.k) = search rules in
    let second : FitsSigned w32 (at c.args.four.second.now c.loop-k.k) = search rules in
    let third : FitsSigned w32 (at c.args.four.third.now c.loop-k.k) = search rules in
    let fourth : FitsSigned w32 (at c.args.four.fourth.now c.loop-k.k) = search rules in
    let sum : ℤ → ℤ → ℤ = λ x y. x +ℤ y in
    adds_more _ c.loop-k.k c.args.sums.now c.loop-k.sums c.sum_of.result (omega arith) (omega arith) c.requires.room c.loop-k.invariant
    (c.sum_of.ensures.value ∙ ap₂ sum (ap₂ sum (to_z-of_z _ _ first) (to_z-of_z _ _ second)) (ap₂ sum (to_z-of_z _ _ third) (to_z-of_z _ _ fourth))) c.sum_of.ensures.small
