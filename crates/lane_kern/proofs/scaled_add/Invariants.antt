use Rattle.std.proofs.Common.{◌+ℤ◌, ◌*ℤ◌}
use Rattle.lane_kern.specs.Blocks.{at}
use Rattle.lane_kern.proofs.Made.{MadeBelow}
use Rattle.lane_kern.proofs.scaled_add.Given as goal

abbrev pub invariant-loop-k : goal.invariant-loop-k
invariant-loop-k l = MadeBelow (λ k. at l.initial.acc k +ℤ at l.src k *ℤ l.factor) l.k l.initial.acc l.acc
