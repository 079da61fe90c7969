use Rattle.std.proofs.Common.{◌≡◌, ◌+ℤ◌, refl, pos, arith, FitsSigned, to_z, of_z}
use Rattle.std.specs.Int.{w64}
use Rattle.std.proofs.lemmas.Int.{ints}
use Rattle.channel_mix.proofs.Shifts.{rounded, rnd_within}
use Rattle.channel_mix.proofs.kernels.quarter_of.Goals as goal

pub returns-clause-value : goal.returns-clause-value
returns-clause-value c =
    let sum = (c.args.x +ℤ c.args.y) +ℤ (c.args.z +ℤ c.args.w) in
    let sum_is : to_z w64 (of_z w64 (to_z w64 (of_z w64 c.sum_of.result) +ℤ to_z w64 (of_z w64 c.sum_of-2.result))) ≡ sum = omega (arith, ints) in
    let fits : FitsSigned w64 (sum +ℤ pos 2) = omega (arith, ints) in
    simp sum_is (rounded 4 2 sum refl fits)

pub returns-clause-small : goal.returns-clause-small
returns-clause-small c = rw (returns-clause-value c) (rnd_within 4 2 _ ((c.args.x +ℤ c.args.y) +ℤ (c.args.z +ℤ c.args.w)) refl (omega (arith, ints)))
