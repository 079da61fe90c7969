-- What writing a channel leaves.
use Rattle.std.specs.Prelude.{ℕ, ◌≡◌, ◌≢◌, ◌<◌, ℤ, List}
use Rattle.buffer_store.specs.declared.buffers.Buffer.{Buffer}
use Rattle.buffer_store.specs.Buffers.{channel_of, written, with_written, IsBuffer}

-- a channel that is written is as it was but for the frames that are written, and every other channel is as it was
pub record Writes (old new : Buffer) (channel : ℕ) (samples : List ℤ) (at : ℕ) : Type 0 where
  pub this : channel_of new channel ≡ written (channel_of old channel) at samples
  pub others : (other : ℕ) → other < old.shape.channels → other ≢ channel → channel_of new other ≡ channel_of old other

abbrev pub WritingLaw : Type 0
WritingLaw =
    (buffer : Buffer) (channel : ℕ) (samples : List ℤ) (at : ℕ) → IsBuffer buffer → channel < buffer.shape.channels
    → Writes buffer (with_written channel samples at buffer) channel samples at
