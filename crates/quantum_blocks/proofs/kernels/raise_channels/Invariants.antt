use Rattle.std.proofs.Common.{ℕ, pos, ◌≡◌, ◌<◌, ◌*◌, ◌+ℤ◌, length, slice_index_or}
use Rattle.wa_base.specs.Numbers.{sat}
use Rattle.mix_rules.specs.Blocks.{sample}
use Rattle.quantum_blocks.proofs.kernels.raise_channels.Given as goal

-- the channels so far
abbrev pub invariant-loop-channel : goal.invariant-loop-channel
invariant-loop-channel l = record {
  length : length l.block ≡ length l.held * l.frames;
  so_far : (c m : ℕ) → c < l.channel → m < l.frames → sample l.frames l.block c m ≡ sat (sample l.frames l.heard c m +ℤ slice_index_or l.held c (pos 0));
}
