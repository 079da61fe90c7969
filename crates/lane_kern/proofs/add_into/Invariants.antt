use Rattle.std.proofs.Common.{ℕ, ◌<◌, ◌^◌, ◌+ℤ◌}
use Rattle.lane_kern.specs.Blocks.{at, IsWithin}
use Rattle.lane_kern.proofs.Made.{MadeBelow}
use Rattle.lane_kern.proofs.add_into.Given as goal

abbrev pub invariant-loop-k : goal.invariant-loop-k
invariant-loop-k l = record {
  sums : MadeBelow (λ k. at l.initial.acc k +ℤ at l.src k) l.k l.initial.acc l.acc;
  samples : (k : ℕ) → k < l.k → IsWithin (2 ^ 31) (at l.src k);
}
