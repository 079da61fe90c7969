-- The rings of a line, one for each channel.
use Rattle.std.specs.Prelude.{ℕ, ◌+◌, ◌-◌, ◌<◌, ◌≡◌, ℤ, pos, List}
use Rattle.mix_rules.specs.Blocks.{sample}
use Rattle.circular_buffer.specs.Buffer.{Buffer}
use Rattle.delay_line.specs.Lines.{from_end}

-- a ring with a channel's samples of one more block, whatever they are where the block lacks the channel
pub record IsExtended (old new : Buffer ℤ) (block : List ℤ) (channels frames c : ℕ) : Type 0 where
  pub capacity : new.capacity ≡ old.capacity
  pub newest : (k : ℕ) → c < channels → k < frames → from_end new.items (frames - k - 1) (pos 0) ≡ sample frames block c k
  pub older : (i : ℕ) → frames + i < old.capacity → from_end new.items (frames + i) (pos 0) ≡ from_end old.items i (pos 0)
