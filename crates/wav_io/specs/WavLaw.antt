-- Laws of reading: the list of chunks is whole, and what is written is read again.
use Rattle.std.specs.Prelude.{◌≡◌, ℕ, ◌+◌, ◌<◌, ◌≤◌, nat_le, if◌then◌else◌, [], ◌∷◌, ◌^◌, ℤ, pos, ◌*ℤ◌, List, length, map, slice_index_or, Ok}
use Rattle.std.specs.List.{All, flat_map, range_with_len}
use Rattle.wav_io.specs.WavText.{data_size, sample_of, wav_bytes}
use Rattle.wav_io.specs.WavGrammar.{chunk_at, next_place, chunks_from, wav_of}

-- The list of chunks stops nowhere but where fewer than eight bytes are left: else there is the chunk at the place, and then the
-- list from the next place on.
abbrev pub ChunksLaw : Type 0
ChunksLaw =
    (bytes : List ℕ) (place : ℕ)
    → chunks_from bytes place
    ≡ (if nat_le (place + 8) (length bytes) then chunk_at bytes place ∷ chunks_from bytes (next_place (chunk_at bytes place)) else [])

-- a channel of a file of 24 bits, as it is read: each value is twice the sample that was written for a frame
abbrev pub read_back : List (List ℤ) → ℕ → List ℤ
read_back rows channel = map (λ row. pos 2 *ℤ sample_of 24 (slice_index_or row channel (pos 0))) rows

-- A file that was written with 24 bits has a reading, for every rate, every number of channels and every number of frames whose
-- samples a file has room for. Each row has the values of one frame, channel by channel.
abbrev pub ReadsBackLaw : Type 0
ReadsBackLaw =
    (rate channels : ℕ) (rows : List (List ℤ)) → rate < 2 ^ 32 → 1 ≤ channels → channels ≤ 32 → 1 ≤ length rows
    → All (λ row. length row ≡ channels) rows → data_size channels 24 (length rows) < 2 ^ 32
    → wav_of (wav_bytes rate channels 24 rows)
    ≡ Ok (record {
      rate = rate;
      channels = channels;
      frames = length rows;
      samples = flat_map (read_back rows) (range_with_len 0 channels);
    })
