-- The header of a file that was written with 24 bits, as it is read.
use Rattle.std.proofs.Common.{◌≡◌, ℕ, ◌+◌, ◌-◌, ◌*◌, ◌/◌, ◌^◌, ◌<◌, ◌≤◌, true, false, List, [], ◌++◌, length, refl, ap, ◌∙◌, arith, length-append}
use Rattle.std.specs.Prelude.{nat_le, min, Result, Ok}
use Rattle.std.proofs.lemmas.Bool.Decides.{nat_tests}
use Rattle.std.proofs.Math.Nat.{mul-div_cancel}
use Rattle.byteorder.specs.Numbers.{little_number-reads_back}
use Rattle.wav_io.specs.declared.chunk_walk.Chunk.{Chunk}
use Rattle.wav_io.specs.declared.chunk_walk.Kind.TheVariants.{FormatChunk, DataChunk}
use Rattle.wav_io.specs.declared.format_chunk.Format.{Format}
use Rattle.wav_io.specs.declared.wav.WavErr.{WavErr}
use Rattle.wav_io.specs.WavText.{header_bytes, data_size}
use Rattle.wav_io.specs.WavGrammar.{is_riff, number_at, chunk_at, kind_named, is_short, is_pcm, is_width, has_shape, format_in, frames_in}
use Rattle.wav_io.proofs.WavLemmas.{length-header_bytes}

format_good : (bytes : List ℕ) (chunk : Chunk) → is_short bytes chunk ≡ false → is_pcm bytes chunk ≡ true
    → is_width (number_at 2 bytes (chunk.place + 22)) ≡ true
    → has_shape (number_at 2 bytes (chunk.place + 10)) (number_at 2 bytes (chunk.place + 22)) (number_at 2 bytes (chunk.place + 20)) ≡ true
    → format_in bytes chunk
    ≡ Ok (record {
      rate = number_at 4 bytes (chunk.place + 12);
      channels = number_at 2 bytes (chunk.place + 10);
      bits = number_at 2 bytes (chunk.place + 22);
    })
unfolding format_in
format_good bytes chunk long pcm width shape = rw (long, pcm, width, shape) refl

shape_good : (channels block : ℕ) → 1 ≤ channels → channels ≤ 32 → block ≡ channels * 24 / 8 → has_shape channels 24 block ≡ true
unfolding has_shape
shape_good channels block some few is = grind (arith, nat_tests)

abbrev pub file : ℕ → ℕ → ℕ → List ℕ → List ℕ
file rate channels frames rest = header_bytes rate channels 24 frames ++ rest

abbrev pub format_chunk : Chunk
format_chunk = record { place = 12; kind = FormatChunk; size = 16 }

abbrev pub data_chunk : ℕ → Chunk
data_chunk size = record { place = 36; kind = DataChunk; size = size }

abbrev pub format_24 : ℕ → ℕ → Format
format_24 rate channels = record { rate = rate; channels = channels; bits = 24 }

abbrev made : ℕ → ℕ → ℕ → Result Format WavErr
made rate channels bits = Ok (record { rate = rate; channels = channels; bits = bits })

width_24 : is_width 24 ≡ true
unfolding is_width
width_24 = refl

module _ (rate channels frames : ℕ) (rest : List ℕ) where
  pub length-file : length (file rate channels frames rest) ≡ 44 + length rest
  length-file = length-append (header_bytes rate channels 24 frames) rest ∙ ap (λ n. n + length rest) (length-header_bytes rate channels 24 frames)

  pub riff_back : is_riff (file rate channels frames rest) ≡ true
  unfolding is_riff header_bytes
  riff_back =
      let long : nat_le 12 (length (file rate channels frames rest)) ≡ true = grind (arith, nat_tests) in
      rw long refl

  pub format_chunk_back : chunk_at (file rate channels frames rest) 12 ≡ format_chunk
  unfolding chunk_at kind_named header_bytes
  format_chunk_back = refl

  pub data_chunk_back : data_size channels 24 frames < 2 ^ 32 → chunk_at (file rate channels frames rest) 36 ≡ data_chunk (data_size channels 24 frames)
  unfolding chunk_at kind_named header_bytes
  data_chunk_back small =
      ap (λ (size : ℕ). let chunk : Chunk = record { place = 36; kind = DataChunk; size = size } in chunk)
      (little_number-reads_back 4 (data_size channels 24 frames) [] small)

  channels_back : channels ≤ 32 → number_at 2 (file rate channels frames rest) 22 ≡ channels
  unfolding header_bytes
  channels_back few = little_number-reads_back 2 channels [] (omega arith)

  rate_back : rate < 2 ^ 32 → number_at 4 (file rate channels frames rest) 24 ≡ rate
  unfolding header_bytes
  rate_back small = little_number-reads_back 4 rate [] small

  block_back : channels ≤ 32 → number_at 2 (file rate channels frames rest) 32 ≡ channels * 24 / 8
  unfolding header_bytes
  block_back few = little_number-reads_back 2 (channels * 24 / 8) [] (omega arith)

  bits_back : number_at 2 (file rate channels frames rest) 34 ≡ 24
  unfolding header_bytes
  bits_back = refl

  pcm_back : is_pcm (file rate channels frames rest) format_chunk ≡ true
  unfolding is_pcm header_bytes
  pcm_back = refl

  long_back : is_short (file rate channels frames rest) format_chunk ≡ false
  unfolding is_short
  long_back = let long = length-file in grind (arith, nat_tests)

  pub format_back : rate < 2 ^ 32 → 1 ≤ channels → channels ≤ 32
      → format_in (file rate channels frames rest) format_chunk ≡ Ok (format_24 rate channels)
  format_back small some few =
      let width = ap is_width bits_back ∙ width_24 in
      let shape =
      ap (λ bits. has_shape (number_at 2 (file rate channels frames rest) 22) bits (number_at 2 (file rate channels frames rest) 32)) bits_back
      ∙ ap (λ n. has_shape n 24 (number_at 2 (file rate channels frames rest) 32)) (channels_back few)
      ∙ shape_good channels _ some few (block_back few) in
      format_good (file rate channels frames rest) format_chunk long_back pcm_back width shape
      ∙ ap (λ bits. made (number_at 4 (file rate channels frames rest) 24) (number_at 2 (file rate channels frames rest) 22) bits) bits_back
      ∙ ap (λ n. made (number_at 4 (file rate channels frames rest) 24) n 24) (channels_back few)
      ∙ ap (λ n. made n channels 24) (rate_back small)

-- all frames are there
pub frames_back : (bytes : List ℕ) (rate channels frames : ℕ) → 1 ≤ channels → data_size channels 24 frames + 44 ≤ length bytes
    → frames_in bytes (format_24 rate channels) (data_chunk (data_size channels 24 frames)) ≡ frames
frames_back bytes rate channels frames some there =
    ap (λ n. n / (channels * 3))
    (let all : min (length bytes) (36 + 8 + data_size channels 24 frames) - (36 + 8) ≡ frames * (channels * 3) = omega arith in all)
    ∙ mul-div_cancel frames (omega arith)
