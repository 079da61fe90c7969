-- The bytes of a WAV file of PCM samples. The lowest byte of a number comes first.
use Rattle.std.specs.Prelude.{ℕ, ◌+◌, ◌-◌, ◌*◌, ◌/◌, ◌%◌, ◌^◌, ℤ, pos, List, ◌++◌, length, codes, replicate}
use Rattle.std.specs.Int.{w64, saturate_to_bits}
use Rattle.std.specs.List.{flat_map}
use Rattle.byteorder.specs.Endian.{little_bytes, low_bytes}
use Rattle.wa_base.specs.Numbers.{rnd}

-- how many bytes the samples of so many frames take
abbrev pub data_size : ℕ → ℕ → ℕ → ℕ
data_size channels bits frames = frames * channels * bits / 8

-- what follows so many bytes of samples: one zero byte where their number is odd, else nothing
abbrev pub padding : ℕ → List ℕ
padding size = replicate (size % 2) 0

-- the start of a file whose samples take `size` bytes: how many bytes follow, and of what kind
abbrev pub riff_bytes : ℕ → List ℕ
riff_bytes size = codes "RIFF" ++ little_bytes 4 (36 + size + size % 2) ++ codes "WAVE"

-- the format chunk of 16 bytes: tag 1 for PCM, channels, frames a second, bytes a second, bytes a frame, bits a sample
abbrev pub format_bytes : ℕ → ℕ → ℕ → List ℕ
format_bytes rate channels bits =
    codes "fmt " ++ little_bytes 4 16 ++ little_bytes 2 1 ++ little_bytes 2 channels ++ little_bytes 4 rate
    ++ little_bytes 4 (rate * channels * bits / 8)
    ++ little_bytes 2 (channels * bits / 8)
    ++ little_bytes 2 bits

-- the start of the data chunk: how many bytes of samples follow
abbrev pub data_bytes : ℕ → List ℕ
data_bytes size = codes "data" ++ little_bytes 4 size

-- the 44 bytes before the samples
unfoldable pub header_bytes : ℕ → ℕ → ℕ → ℕ → List ℕ
header_bytes rate channels bits frames =
    riff_bytes (data_size channels bits frames) ++ format_bytes rate channels bits ++ data_bytes (data_size channels bits frames)

-- the sample for the Fix v: 1.0 would be 2^(bits - 1), a half goes up, and what does not fit becomes the highest or the lowest sample
abbrev pub sample_of : ℕ → ℤ → ℤ
sample_of bits v = saturate_to_bits (bits - 1) (rnd v (pos (2 ^ (25 - bits))))

-- that sample as a number of bits / 8 bytes, in two's complement
abbrev pub sample_bytes : ℕ → ℤ → List ℕ
sample_bytes bits v = little_bytes (bits / 8) (low_bytes w64 (bits / 8) (sample_of bits v))

-- the samples of the values, one after another
abbrev pub samples_bytes : ℕ → List ℤ → List ℕ
samples_bytes bits vs = flat_map (sample_bytes bits) vs

-- a whole file, where each row has the values of one frame, channel by channel
abbrev pub wav_bytes : ℕ → ℕ → ℕ → List (List ℤ) → List ℕ
wav_bytes rate channels bits rows =
    header_bytes rate channels bits (length rows)
    ++ samples_bytes bits (flat_map (λ row. row) rows)
    ++ padding (data_size channels bits (length rows))
