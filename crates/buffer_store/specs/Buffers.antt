-- The buffers of a session, in order of creation (the recommendation's section on AudioBuffer).
use Rattle.std.specs.Prelude.{ℕ, zero, suc, ◌≡◌, ◌<◌, ◌≤◌, ◌+◌, ◌-◌, ◌*◌, ℤ, pos, ◌&&◌, not, nat_le, nat_lt, Bool, true, false, if◌then◌else◌, List, [], ◌∷◌, ◌++◌, length, take, drop, replicate, slice_get, All, Option, Some, None, IfSome, option_map, option_and_then}
use Rattle.std.specs.List.{sum_by}
use Rattle.wa_base.specs.declared.exceptions.Exc.{Exc}
use Rattle.wa_base.specs.declared.exceptions.Exc.TheVariants.{NotSupported, IndexSize}
use Rattle.wa_base.specs.declared.features.Feature.TheVariants.{BufferLimit, BufferAcquired}
use Rattle.buffer_store.specs.declared.wav.Wav.{Wav}
use Rattle.buffer_store.specs.declared.buffers.Buffer.{Buffer}
use Rattle.buffer_store.specs.declared.buffers.Shape.{Shape}

-- ---- one buffer

-- the samples of a channel: a buffer has those of the first channel, then those of the second, and so on
abbrev pub channel_of : Buffer → ℕ → List ℤ
channel_of buffer channel = take buffer.shape.frames (drop (channel * buffer.shape.frames) buffer.samples)

-- so many samples of 0
abbrev pub zeros : ℕ → List ℤ
zeros count = replicate count (pos 0)

-- a buffer as it is created: silent, and not frozen
abbrev pub silence : (channels frames rate : ℕ) → Buffer
silence channels frames rate =
    record { shape = record { channels = channels; frames = frames; rate = rate; frozen = false }; samples = zeros (channels * frames) }

-- a buffer with the samples of a recording
abbrev pub recorded : Wav → Buffer
recorded wav =
    record { shape = record { channels = wav.channels; frames = wav.frames; rate = wav.rate; frozen = false }; samples = wav.samples }

-- a list that is written over from a place on; it keeps its length, and what would lie past its end is dropped
abbrev pub written : List ℤ → ℕ → List ℤ → List ℤ
written old at new = take at old ++ (take (length old - at) new ++ drop (at + length new) old)

-- a buffer of which one channel is written over from a frame on
unfoldable pub with_written : ℕ → List ℤ → ℕ → Buffer → Buffer
with_written channel new at buffer = record buffer {
  samples =
      take (channel * buffer.shape.frames) buffer.samples
      ++ (written (channel_of buffer channel) at new ++ drop (channel * buffer.shape.frames + buffer.shape.frames) buffer.samples);
}

-- a buffer that can't be written any more
abbrev pub frozen : Buffer → Buffer
frozen buffer = record buffer { shape = record buffer.shape { frozen = true } }

-- why writing a channel is refused: there is no such channel, or the buffer is frozen
abbrev pub write_refusal : ℕ → Buffer → Option Exc
write_refusal channel buffer =
    if not (nat_lt channel buffer.shape.channels) then Some IndexSize
    else if buffer.shape.frozen then Some (NotSupported (Some BufferAcquired)) else None

-- ---- all buffers

-- the number of samples in all buffers
abbrev pub total_of : List Buffer → ℕ
total_of buffers = sum_by (λ buffer. length buffer.samples) buffers

-- why so many samples more are refused: all buffers have at most 134,217,728 samples
abbrev pub limit_refusal : List Buffer → ℕ → ℕ → Option Exc
limit_refusal buffers channels frames =
    if nat_le (total_of buffers + channels * frames) 134217728 then None else Some (NotSupported (Some BufferLimit))

-- 1 to 32 channels, at least one frame, and 8,000 to 96,000 frames a second
abbrev pub is_supported : (channels frames rate : ℕ) → Bool
is_supported channels frames rate =
    nat_le 1 channels && nat_le channels 32 && nat_le 1 frames && nat_le 8000 rate && nat_le rate 96000

-- why a new buffer is refused
abbrev pub creation_refusal : List Buffer → (channels frames rate : ℕ) → Option Exc
creation_refusal buffers channels frames rate =
    if not (is_supported channels frames rate) then Some (NotSupported None) else limit_refusal buffers channels frames

-- why a recording is refused
abbrev pub adoption_refusal : List Buffer → Wav → Option Exc
adoption_refusal buffers wav = limit_refusal buffers wav.channels wav.frames

-- the shape of a buffer, and the samples of a channel of it, if it is there
abbrev pub shape_at : List Buffer → ℕ → Option Shape
shape_at buffers buf = option_map (λ buffer. buffer.shape) (slice_get buffers buf)

abbrev pub channel_at : List Buffer → ℕ → ℕ → Option (List ℤ)
channel_at buffers buf channel = option_map (λ buffer. channel_of buffer channel) (slice_get buffers buf)

-- the list with one buffer changed, which is there
abbrev pub changed_at : ℕ → (Buffer → Buffer) → List Buffer → List Buffer
changed_at buf change [] = []
changed_at zero change (b ∷ bs) = change b ∷ bs
changed_at (suc buf) change (b ∷ bs) = b ∷ changed_at buf change bs

-- what is refused of a buffer of the list
abbrev pub refusal_at : List Buffer → ℕ → (Buffer → Option Exc) → Option Exc
refusal_at buffers buf others = option_and_then others (slice_get buffers buf)

-- ---- what holds of every list of buffers

pub record IsBuffer (buffer : Buffer) : Type 0 where
  pub channels_low : 1 ≤ buffer.shape.channels
  pub channels_high : buffer.shape.channels ≤ 32
  pub frames : 1 ≤ buffer.shape.frames
  pub samples : length buffer.samples ≡ buffer.shape.channels * buffer.shape.frames

pub record AreBuffers (buffers : List Buffer) : Type 0 where
  pub each : All IsBuffer buffers
  pub limit : total_of buffers ≤ 134217728

-- a buffer that is there, with such a channel
abbrev pub HasChannel : List Buffer → ℕ → ℕ → Type 0
HasChannel buffers buf channel = (buf < length buffers) × IfSome (shape_at buffers buf) (λ shape. channel < shape.channels)
