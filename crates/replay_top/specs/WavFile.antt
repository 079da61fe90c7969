-- The WAV file of a session.
use Rattle.std.specs.Prelude.{ℕ, ◌≡◌, ◌*◌, ◌++◌, ℤ, List, length}
use Rattle.wa_base.specs.declared.contexts.ContextSpec.{ContextSpec}
use Rattle.wa_base.specs.Contexts.{IsSupported}
use Rattle.session.specs.declared.rendered.Rendered.{Rendered}
use Rattle.wav_io.specs.WavText.{header_bytes, samples_bytes, padding, data_size}

-- a whole file of samples that stand frame after frame, each of so many bits
unfoldable pub wav_of : ℕ → ContextSpec → List ℤ → List ℕ
wav_of bits spec samples =
    header_bytes spec.rate spec.channels bits spec.length
    ++ samples_bytes bits samples
    ++ padding (data_size spec.channels bits spec.length)

-- what was rendered can be written: its context is in its ranges, and it has all samples
pub record IsWritable (rendered : Rendered) : Type 0 where
  pub supported : IsSupported rendered.spec
  pub long : length rendered.samples ≡ rendered.spec.channels * rendered.spec.length
