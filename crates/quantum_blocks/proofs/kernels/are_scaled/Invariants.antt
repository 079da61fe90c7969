use Rattle.std.proofs.Common.{ℕ, pos, ◌≡◌, ◌<◌, slice_index_or, FitsSigned}
use Rattle.std.specs.Int.{w32}
use Rattle.wa_base.specs.Numbers.{scale as scaled}
use Rattle.quantum_blocks.proofs.kernels.are_scaled.Given as goal

-- those so far are the others, multiplied
abbrev pub invariant-loop-k : goal.invariant-loop-k
invariant-loop-k l = record {
  values : (i : ℕ) → i < l.k → slice_index_or l.values i (pos 0) ≡ scaled (slice_index_or l.heard i (pos 0)) l.gain;
  fit : (i : ℕ) → i < l.k → FitsSigned w32 (slice_index_or l.heard i (pos 0));
}
