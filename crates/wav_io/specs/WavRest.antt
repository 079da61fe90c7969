-- What comes after the format of a WAV file.
use Rattle.std.specs.Prelude.{◌≡◌, List, ℕ}
use Rattle.wav_io.specs.declared.chunk_walk.Chunk.{Chunk}
use Rattle.wav_io.specs.WavGrammar.{chunks_from, next_place, first_data, end_of}

-- the first `data` chunk of the file and its end are those of the chunks after this one
pub record IsRest (bytes : List ℕ) (chunk : Chunk) : Type 0 where
  pub data_chunk : first_data (chunks_from bytes 12) ≡ first_data (chunks_from bytes (next_place chunk))
  pub end : end_of bytes 12 (chunks_from bytes 12) ≡ end_of bytes (next_place chunk) (chunks_from bytes (next_place chunk))
