use Rattle.std.proofs.Common.{ℤ, FitsSigned, refl, sym}
use Rattle.std.specs.Int.{w32}
use Rattle.quantum_blocks.proofs.Attenuating.{lane_fits, lane_is}
use Rattle.quantum_blocks.proofs.kernels.attenuated_four.Goals as goal

pub overflow_cast-result : goal.overflow_cast-result
overflow_cast-result c =
    let fits = λ (x : ℤ) (range : FitsSigned w32 x). lane_fits x c.args.gain range c.ranges.gain c.requires in
    rw c.wide.ensures (rw c.from.ensures (fits _ c.ranges.first, (fits _ c.ranges.second, (fits _ c.ranges.third, (fits _ c.ranges.fourth, tt)))))

pub returns : goal.returns
returns c =
    let is = λ (x : ℤ) (range : FitsSigned w32 x). lane_is x c.args.gain range c.ranges.gain c.requires in
    rw c.wide.ensures (rw c.from.ensures (rw (sym (is _ c.ranges.first), sym (is _ c.ranges.second), sym (is _ c.ranges.third), sym (is _ c.ranges.fourth)) refl))
