-- A file that was written with 24 bits, as it is read.
use Rattle.std.proofs.Common.{◌≡◌, ℕ, ◌+◌, ◌-◌, ◌*◌, ◌^◌, ◌<◌, ◌≤◌, ℤ, List, [], ◌∷◌, ◌++◌, length, drop, take, inr, map, refl, sym, ap, ap₂, ◌∙◌, arith, append_assoc, length-append}
use Rattle.std.specs.Prelude.{Ok}
use Rattle.std.specs.List.{All, flat_map, range_with_len}
use Rattle.std.proofs.Math.Seq.{drop-append-add}
use Rattle.wav_io.specs.declared.chunk_walk.Chunk.{Chunk}
use Rattle.wav_io.specs.WavText.{header_bytes, samples_bytes, data_size, padding, wav_bytes}
use Rattle.wav_io.specs.WavGrammar.{value_of, bytes_at, is_format_kind, is_data_kind, is_cut, chunks_from, next_place, first_data, end_of, data_chunk_of, channel_values, wav_in, wav_of}
use Rattle.wav_io.specs.WavRest.{IsRest}
use Rattle.wav_io.specs.WavLaw.{read_back}
use Rattle.wav_io.proofs.ChunkList.{format_found, here_only_format, here_data, same_end}
use Rattle.wav_io.proofs.Decoding.{not_cut, with_data, some_blocks}
use Rattle.wav_io.proofs.HeaderBack.{file, format_chunk, data_chunk, format_24, length-file, riff_back, format_chunk_back, data_chunk_back, format_back, frames_back}
use Rattle.wav_io.proofs.ReadingBack.{flat_map-range_same, channel_back}
use Rattle.wav_io.proofs.WavLemmas.{length-header_bytes, length-rows, length-samples_of_frames}

map-same : {A : Type 0} (f g : ℕ → A) (xs : List ℕ) → ((x : ℕ) → f x ≡ g x) → map f xs ≡ map g xs
map-same f g [] same = refl
map-same f g (x ∷ xs) same = ap₂ (λ y ys. y ∷ ys) (same x) (map-same f g xs same)

module _ (rate channels frames : ℕ) (rest : List ℕ) where
  -- the format comes first, and then the data
  data_found : data_size channels 24 frames < 2 ^ 32 → rate < 2 ^ 32 → 1 ≤ channels → channels ≤ 32
      → wav_of (file rate channels frames rest) ≡ wav_in (file rate channels frames rest) (format_24 rate channels) (data_chunk (data_size channels 24 frames))
  data_found small rate_small some few =
      let bytes : List ℕ = file rate channels frames rest in
      let long = length-file rate channels frames rest in
      let here = format_chunk_back rate channels frames rest in
      let is = ap (λ (chunk : Chunk). is_format_kind chunk.kind) here in
      let room : 12 + 8 ≤ length bytes = omega arith in
      let found = format_found bytes 12 room (end_of bytes 12 (chunks_from bytes 12)) is ∙ ap Ok here in
      let whole = not_cut bytes format_chunk (omega arith) in
      let after : IsRest bytes format_chunk = record {
        data_chunk = here_only_format bytes 12 room is ∙ ap (λ chunk. first_data (chunks_from bytes (next_place chunk))) here;
        end =
            same_end bytes 12 room (ap (is_cut bytes) here ∙ whole)
            ∙ ap (λ chunk. end_of bytes (next_place chunk) (chunks_from bytes (next_place chunk))) here;
      } in
      let there = data_chunk_back rate channels frames rest small in
      let data_room : 36 + 8 ≤ length bytes = omega arith in
      with_data bytes (riff_back rate channels frames rest) format_chunk found (format_24 rate channels)
      (format_back rate channels frames rest rate_small some few) after 36 refl (data_chunk (data_size channels 24 frames))
      (ap (λ d. data_chunk_of d (end_of bytes 36 (chunks_from bytes 36))) (here_data bytes 36 data_room (ap (λ (chunk : Chunk). is_data_kind chunk.kind) there)) ∙ ap Ok there)

-- the bytes of a sample stand after the header
sample_bytes_back : (rate channels frames : ℕ) (rest : List ℕ) (n : ℕ)
    → bytes_at 3 (file rate channels frames rest) (44 + n) ≡ take 3 (drop n rest)
sample_bytes_back rate channels frames rest n =
    let header : List ℕ = header_bytes rate channels 24 frames in
    ap (λ m. take m (drop (44 + n) (file rate channels frames rest))) (let e : 44 + n + 3 - (44 + n) ≡ 3 = omega arith in e)
    ∙ ap (λ m. take 3 (drop (m + n) (file rate channels frames rest))) (sym (length-header_bytes rate channels 24 frames))
    ∙ ap (take 3) (drop-append-add header rest n)

-- the values of a channel
channel_is_back : (rate channels : ℕ) (rows : List (List ℤ)) (more : List ℕ) (channel : ℕ) → All (λ row. length row ≡ channels) rows → channel < channels
    → channel_values (file rate channels (length rows) (samples_bytes 24 (flat_map (λ row. row) rows) ++ more)) (format_24 rate channels) 44 (length rows) channel
    ≡ read_back rows channel
channel_is_back rate channels rows more channel even within =
    map-same (λ frame. value_of 24 (bytes_at 3 (file rate channels (length rows) (samples_bytes 24 (flat_map (λ row. row) rows) ++ more)) (44 + (frame * channels + channel) * 3)))
    (λ frame. value_of 24 (take 3 (drop ((frame * channels + channel) * 3) (samples_bytes 24 (flat_map (λ row. row) rows) ++ more))))
    (range_with_len 0 (length rows))
    (λ frame. ap (value_of 24) (sample_bytes_back rate channels (length rows) (samples_bytes 24 (flat_map (λ row. row) rows) ++ more) ((frame * channels + channel) * 3)))
    ∙ channel_back channels rows more channel even within

pub written_back : (rate channels : ℕ) (rows : List (List ℤ)) → rate < 2 ^ 32 → 1 ≤ channels → channels ≤ 32 → 1 ≤ length rows
    → All (λ row. length row ≡ channels) rows → data_size channels 24 (length rows) < 2 ^ 32
    → wav_of (wav_bytes rate channels 24 rows)
    ≡ Ok (record { rate = rate; channels = channels; frames = length rows; samples = flat_map (read_back rows) (range_with_len 0 channels) })
written_back rate channels rows rate_small some few some_rows even small =
    let values : List ℤ = flat_map (λ row. row) rows in
    let more : List ℕ = padding (data_size channels 24 (length rows)) in
    let rest : List ℕ = samples_bytes 24 values ++ more in
    let bytes : List ℕ = file rate channels (length rows) rest in
    let long = length-file rate channels (length rows) rest in
    let all = length-append (samples_bytes 24 values) more ∙ ap (λ n. n + length more) (length-samples_of_frames channels 24 (length rows) values (inr refl) (length-rows channels rows even)) in
    ap wav_of (append_assoc (header_bytes rate channels 24 (length rows)) (samples_bytes 24 values) more)
    ∙ data_found rate channels (length rows) rest small rate_small some few
    ∙ some_blocks bytes (format_24 rate channels) (data_chunk (data_size channels 24 (length rows))) (length rows)
    (sym (frames_back bytes rate channels (length rows) some (omega arith)))
    (flat_map (read_back rows) (range_with_len 0 channels))
    (λ none. omega arith)
    (sym (flat_map-range_same (channel_values bytes (format_24 rate channels) 44 (length rows)) (read_back rows) 0 channels
    (λ channel within. channel_is_back rate channels rows more channel even (omega arith))))
