-- What a recording has.
use Rattle.std.specs.Prelude.{◌≡◌, ◌≤◌, ◌*◌, length}
use Rattle.buffer_store.specs.declared.wav.Wav.{Wav}

-- what every recording that is read has: 1 to 32 channels, at least one frame, and a sample for each channel and frame
pub record IsRecording (wav : Wav) : Type 0 where
  pub channels_low : 1 ≤ wav.channels
  pub channels_high : wav.channels ≤ 32
  pub frames : 1 ≤ wav.frames
  pub samples : length wav.samples ≡ wav.channels * wav.frames
