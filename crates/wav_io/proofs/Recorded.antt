-- What is read of a file is a recording.
use Rattle.std.proofs.Common.{ℕ, ◌≡◌, ◌≤◌, Bool, true, false, not, ◌&&◌, List, Option, Result, Ok, Err, refl, ap, subst, arith}
use Rattle.std.specs.Prelude.{if◌then◌else◌, nat_le, nat_eq, ◌+◌, ◌*◌, ◌/◌}
use Rattle.std.proofs.lemmas.Bool.Decides.{nat_tests}
use Rattle.buffer_store.specs.Recordings.{IsRecording}
use Rattle.buffer_store.specs.declared.wav.Wav.{Wav}
use Rattle.wav_io.specs.WavGrammar.{number_at, values_in, is_riff, is_short, is_pcm, is_width, has_shape, format_in, frames_in, wav_in, chunks_from, end_of, first_format, first_data, format_chunk_of, data_chunk_of, judged, judged_by, wav_of, ◌>>=◌}
use Rattle.wav_io.specs.declared.chunk_walk.Chunk.{Chunk}
use Rattle.wav_io.specs.declared.format_chunk.Format.{Format}
use Rattle.wav_io.specs.declared.wav.WavErr.{WavErr}
use Rattle.wav_io.specs.declared.wav.WavErr.TheVariants.{NotRiff, NoFormat, UnknownTag, BadBits, BadShape, NoData}
use Rattle.wav_io.proofs.Ranges.{length-values_in}

-- ---- 1 to 32 channels

record HasShape (format : Format) : Type 0 where
  low : 1 ≤ format.channels
  high : format.channels ≤ 32

parts : (a b : Bool) → (a && b) ≡ true → (a ≡ true) × (b ≡ true)
parts true b is = (refl, is)
parts false b is = absurd cc

shape_within : (channels bits block : ℕ) → has_shape channels bits block ≡ true → (1 ≤ channels) × (channels ≤ 32)
unfolding has_shape
shape_within channels bits block is =
    let both = parts (nat_le 1 channels && nat_le channels 32) (nat_eq block (channels * (bits / 8))) is in
    let ends = parts (nat_le 1 channels) (nat_le channels 32) both.0 in
    (let t : nat_le 1 channels ≡ true = ends.0 in grind (arith, nat_tests), let t : nat_le channels 32 ≡ true = ends.1 in grind (arith, nat_tests))

same_ok : {A : Type 0} {a b : A} → ◌≡◌ {A = Result A WavErr} (Ok a) (Ok b) → a ≡ b
same_ok is = cc

format_shaped : (bytes : List ℕ) (chunk : Chunk) (format : Format) → format_in bytes chunk ≡ Ok format → HasShape format
unfolding format_in
format_shaped bytes chunk format is = by_short (is_short bytes chunk) is
  where
    channels : ℕ
    channels = number_at 2 bytes (chunk.place + 10)

    bits : ℕ
    bits = number_at 2 bytes (chunk.place + 22)

    block : ℕ
    block = number_at 2 bytes (chunk.place + 20)

    found : Format
    found = record { rate = number_at 4 bytes (chunk.place + 12); channels = channels; bits = bits }

    -- the tests that are left, from the last on
    shaped : Result Format WavErr
    shaped = if not (has_shape channels bits block) then Err (BadShape (chunk.place + 10)) else Ok found

    wide : Result Format WavErr
    wide = if not (is_width bits) then Err (BadBits (chunk.place + 22)) else shaped

    tagged : Result Format WavErr
    tagged = if not (is_pcm bytes chunk) then Err (UnknownTag (chunk.place + 8)) else wide

    by_shape : (b : Bool) → has_shape channels bits block ≡ b → (if not b then Err (BadShape (chunk.place + 10)) else Ok found) ≡ Ok format → HasShape format
    by_shape true fits same = let within = shape_within channels bits block fits in subst HasShape (same_ok same) (record { low = within.0; high = within.1 })
    by_shape false fits same = absurd cc

    by_width : (b : Bool) → (if not b then Err (BadBits (chunk.place + 22)) else shaped) ≡ Ok format → HasShape format
    by_width true same = by_shape (has_shape channels bits block) refl same
    by_width false same = absurd cc

    by_tag : (b : Bool) → (if not b then Err (UnknownTag (chunk.place + 8)) else wide) ≡ Ok format → HasShape format
    by_tag true same = by_width (is_width bits) same
    by_tag false same = absurd cc

    by_short : (b : Bool) → (if b then Err (NoFormat chunk.place) else tagged) ≡ Ok format → HasShape format
    by_short true same = absurd cc
    by_short false same = by_tag (is_pcm bytes chunk) same

-- ---- at least one frame, and a sample for each channel and frame

blocks_recorded : (bytes : List ℕ) (format : Format) (chunk : Chunk) (wav : Wav) → HasShape format → wav_in bytes format chunk ≡ Ok wav → IsRecording wav
unfolding wav_in
blocks_recorded bytes format chunk wav shape is = by_count (nat_eq frames 0) refl is
  where
    frames : ℕ
    frames = frames_in bytes format chunk

    found : Wav
    found = record { rate = format.rate; channels = format.channels; frames = frames; samples = values_in bytes format (chunk.place + 8) frames }

    by_count : (b : Bool) → nat_eq frames 0 ≡ b → (if b then Err (NoData chunk.place) else Ok found) ≡ Ok wav → IsRecording wav
    by_count true none same = absurd cc
    by_count false some same =
        subst IsRecording (same_ok same)
        (record { channels_low = shape.low; channels_high = shape.high; frames = grind (arith, nat_tests); samples = length-values_in bytes format (chunk.place + 8) frames })

-- ---- the file

module _ (bytes : List ℕ) (wav : Wav) (format_chunk data_chunk : Option Chunk) (end : ℕ) where
  abbrev rest_of : Format → Result Wav WavErr
  rest_of format = data_chunk_of data_chunk end >>= λ found. wav_in bytes format found

  by_data : (format : Format) → HasShape format → (r : Result Chunk WavErr) → (r >>= λ found. wav_in bytes format found) ≡ Ok wav → IsRecording wav
  by_data format shape (Ok found) is = blocks_recorded bytes format found wav shape is
  by_data format shape (Err e) is = absurd cc

  by_format : (chunk : Chunk) (r : Result Format WavErr) → format_in bytes chunk ≡ r → (r >>= rest_of) ≡ Ok wav → IsRecording wav
  by_format chunk (Ok format) at is = by_data format (format_shaped bytes chunk format at) (data_chunk_of data_chunk end) is
  by_format chunk (Err e) at is = absurd cc

  by_chunk : (r : Result Chunk WavErr) → (r >>= λ chunk. format_in bytes chunk >>= rest_of) ≡ Ok wav → IsRecording wav
  by_chunk (Ok chunk) is = by_format chunk (format_in bytes chunk) refl is
  by_chunk (Err e) is = absurd cc

  judged_recorded : judged bytes format_chunk data_chunk end ≡ Ok wav → IsRecording wav
  judged_recorded is = by_chunk (format_chunk_of format_chunk data_chunk end) is

-- what a file is read as is a recording
pub is_recording : (bytes : List ℕ) (wav : Wav) → wav_of bytes ≡ Ok wav → IsRecording wav
unfolding wav_of
is_recording bytes wav is = by_riff (is_riff bytes) is
  where
    by_riff : (b : Bool) → (if b then judged_by bytes 12 (chunks_from bytes 12) else Err (NotRiff 0)) ≡ Ok wav → IsRecording wav
    by_riff true is = judged_recorded bytes wav (first_format (chunks_from bytes 12)) (first_data (chunks_from bytes 12)) (end_of bytes 12 (chunks_from bytes 12)) is
    by_riff false is = absurd cc
