use Rattle.std.proofs.Common.{ℕ, pos, ◌≡◌, ◌≤◌, ◌<◌, length, slice_index_or}
use Rattle.wa_base.specs.Numbers.{scale}
use Rattle.quantum_blocks.proofs.kernels.attenuate_from.Given as goal

-- those from the place up to here are multiplied
abbrev pub invariant-loop-k : goal.invariant-loop-k
invariant-loop-k l = record {
  length : length l.block ≡ length l.fn.block;
  before : (i : ℕ) → i < l.at → slice_index_or l.block i (pos 0) ≡ slice_index_or l.fn.block i (pos 0);
  values : (i : ℕ) → l.at ≤ i → i < l.k → slice_index_or l.block i (pos 0) ≡ scale (slice_index_or l.heard i (pos 0)) l.gain;
}
