-- The answer to a file, by what was found of it.
use Rattle.std.proofs.Common.{◌≡◌, ℕ, ◌+◌, ◌≤◌, ◌≢◌, ℤ, true, false, List, length, refl, ◌∙◌, arith}
use Rattle.std.specs.Prelude.{nat_eq, Ok, Err}
use Rattle.std.proofs.lemmas.Bool.Decides.{nat_tests}
use Rattle.wav_io.specs.declared.chunk_walk.Chunk.{Chunk}
use Rattle.wav_io.specs.declared.format_chunk.Format.{Format}
use Rattle.wav_io.specs.declared.wav.WavErr.{WavErr}
use Rattle.wav_io.specs.declared.wav.WavErr.TheVariants.{NotRiff, NoData}
use Rattle.wav_io.specs.WavGrammar.{is_riff, chunks_from, next_place, is_cut, end_of, first_format, first_data, format_chunk_of, data_chunk_of, format_in, frames_in, values_in, wav_in, wav_of}
use Rattle.wav_io.specs.WavRest.{IsRest}

pub not_cut : (bytes : List ℕ) (chunk : Chunk) → chunk.place + 8 + chunk.size ≤ length bytes → is_cut bytes chunk ≡ false
not_cut bytes chunk within = grind (arith, nat_tests)

pub not_riff : (bytes : List ℕ) → is_riff bytes ≡ false → wav_of bytes ≡ Err (NotRiff 0)
unfolding wav_of
not_riff bytes other = rw other refl

module _ (bytes : List ℕ) (riff : is_riff bytes ≡ true) where
  pub no_format : (e : WavErr)
      → format_chunk_of (first_format (chunks_from bytes 12)) (first_data (chunks_from bytes 12)) (end_of bytes 12 (chunks_from bytes 12)) ≡ Err e
      → wav_of bytes ≡ Err e
  unfolding wav_of
  no_format e none = rw (riff, none) refl

  module _ (chunk : Chunk)
      (found : format_chunk_of (first_format (chunks_from bytes 12)) (first_data (chunks_from bytes 12)) (end_of bytes 12 (chunks_from bytes 12)) ≡ Ok chunk) where
    pub bad_format : (e : WavErr) → format_in bytes chunk ≡ Err e → wav_of bytes ≡ Err e
    unfolding wav_of
    bad_format e bad = rw (riff, found, bad) refl

    module _ (format : Format) (good : format_in bytes chunk ≡ Ok format) (rest : IsRest bytes chunk) (start : ℕ) (after : start ≡ next_place chunk) where
      same_data : data_chunk_of (first_data (chunks_from bytes 12)) (end_of bytes 12 (chunks_from bytes 12))
          ≡ data_chunk_of (first_data (chunks_from bytes start)) (end_of bytes start (chunks_from bytes start))
      same_data = rw (rest.data_chunk, rest.end, after) refl

      pub no_data : (e : WavErr) → data_chunk_of (first_data (chunks_from bytes start)) (end_of bytes start (chunks_from bytes start)) ≡ Err e → wav_of bytes ≡ Err e
      unfolding wav_of
      no_data e none =
          let all = same_data ∙ none in
          rw (riff, found, good, all) refl

      pub with_data : (data_chunk : Chunk)
          → data_chunk_of (first_data (chunks_from bytes start)) (end_of bytes start (chunks_from bytes start)) ≡ Ok data_chunk
          → wav_of bytes ≡ wav_in bytes format data_chunk
      unfolding wav_of
      with_data data_chunk there =
          let all = same_data ∙ there in
          rw (riff, found, good, all) refl

-- the samples of the blocks that are there
module _ (bytes : List ℕ) (format : Format) (chunk : Chunk) (frames : ℕ) (are : frames ≡ frames_in bytes format chunk) where
  pub no_block : frames ≡ 0 → wav_in bytes format chunk ≡ Err (NoData chunk.place)
  unfolding wav_in
  no_block none =
      let empty : nat_eq (frames_in bytes format chunk) 0 ≡ true = grind (arith, nat_tests) in
      rw empty refl

  pub some_blocks : (samples : List ℤ) → frames ≢ 0 → samples ≡ values_in bytes format (chunk.place + 8) frames
      → wav_in bytes format chunk
      ≡ Ok (record { rate = format.rate; channels = format.channels; frames = frames; samples = samples })
  unfolding wav_in
  some_blocks samples some all =
      let full : nat_eq (frames_in bytes format chunk) 0 ≡ false = grind (arith, nat_tests) in
      rw (full, all, are) refl
