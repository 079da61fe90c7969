use Rattle.std.proofs.Common.{◌≡◌, ◌^◌, ◌*◌}
use Rattle.lane_kern.specs.Blocks.{at, IsWithin}
use Rattle.equations.proofs.Weights.{weighted, weight}
use Rattle.equations.proofs.mixing.mix.Given as goal

-- the sum so far, and how far it can be from 0
abbrev pub invariant-loop-input : goal.invariant-loop-input
invariant-loop-input l = record {
  value : l.sum ≡ weighted (weight l.interp l.from l.to l.channel) (at l.carried.samples) l.input;
  small : IsWithin (l.input * 2 ^ 97) l.sum;
}
