use Rattle.std.proofs.Common.{ℕ, pos, ◌≡◌, ◌≤◌, slice_index_or}
use Rattle.meaning.specs.World.{up_to}
use Rattle.channel_mix.proofs.Made.{IsMade}
use Rattle.quantum_blocks.proofs.kernels.up_to_each.Given as goal

abbrev pub invariant-loop-value : goal.invariant-loop-value
invariant-loop-value l = record {
  made : IsMade (λ k. up_to l.most (slice_index_or l.fn.values k (pos 0))) l.value-index l.value-items;
  rest : (k : ℕ) → l.value-index ≤ k → slice_index_or l.value-items k (pos 0) ≡ slice_index_or l.fn.values k (pos 0);
}
