use Rattle.std.proofs.Common.{pos, ◌+ℤ◌, slice_index_or}
use Rattle.wa_base.specs.Numbers.{sat}
use Rattle.channel_mix.proofs.Made.{IsMade}
use Rattle.quantum_blocks.proofs.kernels.raise_each.Given as goal

abbrev pub invariant-loop-k : goal.invariant-loop-k
invariant-loop-k l = IsMade (λ k. sat (slice_index_or l.heard k (pos 0) +ℤ l.by)) l.k l.block
