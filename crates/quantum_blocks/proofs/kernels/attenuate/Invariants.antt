use Rattle.std.proofs.Common.{pos, ◌≤◌, ◌-◌, slice_index_or}
use Rattle.wa_base.specs.Numbers.{scale}
use Rattle.channel_mix.proofs.Made.{IsMade}
use Rattle.quantum_blocks.proofs.kernels.attenuate.Given as goal

abbrev pub invariant-loop-at : goal.invariant-loop-at
invariant-loop-at l = record {
  made : IsMade (λ k. scale (slice_index_or l.heard k (pos 0)) l.gain) l.at l.block;
  within : l.at ≤ l.frames;
}

abbrev pub decreases-loop-at : goal.decreases-loop-at
decreases-loop-at l = l.frames - l.at
