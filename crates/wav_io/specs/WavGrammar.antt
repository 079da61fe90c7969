-- The reading of a WAV file of PCM samples: RIFF, then a list of chunks, of which the first `fmt ` and the first `data` count.
-- The lowest byte of a number comes first. A place is a number of bytes from the start of the file.
use Rattle.std.specs.Prelude.{ℕ, zero, suc, ◌+◌, ◌-◌, ◌*◌, ◌/◌, ◌%◌, ◌^◌, ℤ, pos, ◌*ℤ◌, ◌-ℤ◌, Bool, true, false, not, ◌&&◌, ◌||◌, if◌then◌else◌, nat_eq, nat_lt, nat_le, min, List, [], ◌∷◌, length, map, codes, slice_range, Option, Some, None, Result, Ok, Err}
use Rattle.std.specs.List.{find, flat_map, range_with_len}
use Rattle.std.specs.Str.{bytes_eq}
use Rattle.byteorder.specs.Endian.{little_number, twos_complement}
use Rattle.wa_base.specs.Numbers.{rnd}
use Rattle.wav_io.specs.declared.format_chunk.Format.{Format}
use Rattle.wav_io.specs.declared.chunk_walk.Chunk.{Chunk}
use Rattle.wav_io.specs.declared.chunk_walk.Kind.{Kind}
use Rattle.wav_io.specs.declared.chunk_walk.Kind.TheVariants.{FormatChunk, DataChunk, Other}
use Rattle.buffer_store.specs.declared.wav.Wav.{Wav}
use Rattle.wav_io.specs.declared.wav.Head.{Head}
use Rattle.wav_io.specs.declared.wav.WavErr.{WavErr}
use Rattle.wav_io.specs.declared.wav.WavErr.TheVariants.{NotRiff, NoFormat, UnknownTag, BadBits, BadShape, NoData, DataFirst}

-- the n bytes at a place, and the number that they are
abbrev pub bytes_at : ℕ → List ℕ → ℕ → List ℕ
bytes_at n bytes place = slice_range bytes place (place + n)

abbrev pub number_at : ℕ → List ℕ → ℕ → ℕ
number_at n bytes place = little_number n (bytes_at n bytes place)

-- twelve bytes, of which the first four are RIFF and the last four WAVE; the size between them may be any
unfoldable pub is_riff : List ℕ → Bool
is_riff bytes = nat_le 12 (length bytes) && bytes_eq (bytes_at 4 bytes 0) (codes "RIFF") && bytes_eq (bytes_at 4 bytes 8) (codes "WAVE")

-- ---- the chunks

-- what a chunk is, by its name of four bytes
unfoldable pub kind_named : List ℕ → Kind
kind_named name = if bytes_eq name (codes "fmt ") then FormatChunk else if bytes_eq name (codes "data") then DataChunk else Other

-- the chunk at a place: its name, the size of its body, and then the body
unfoldable pub chunk_at : List ℕ → ℕ → Chunk
chunk_at bytes place = record { place = place; kind = kind_named (bytes_at 4 bytes place); size = number_at 4 bytes (place + 4) }

abbrev pub body_end : Chunk → ℕ
body_end chunk = chunk.place + 8 + chunk.size

-- where the next chunk is: a body of odd size is followed by one byte of padding
abbrev pub next_place : Chunk → ℕ
next_place chunk = chunk.place + 8 + chunk.size + chunk.size % 2

-- whether a chunk's body reaches past the end of the file
abbrev pub is_cut : List ℕ → Chunk → Bool
is_cut bytes chunk = nat_lt (length bytes) (body_end chunk)

-- at most n chunks from a place on: there is one wherever the file has eight bytes for a name and a size
abbrev pub walk : ℕ → List ℕ → ℕ → List Chunk
walk zero bytes place = []
walk (suc n) bytes place =
    if nat_le (place + 8) (length bytes) then chunk_at bytes place ∷ walk n bytes (next_place (chunk_at bytes place)) else []

-- all chunks from a place on, of which there are fewer than bytes
unfoldable pub chunks_from : List ℕ → ℕ → List Chunk
chunks_from bytes place = walk (length bytes) bytes place

-- Where the chunks from a place on end: at the first whose body is cut, or else where fewer than eight bytes are left. The end
-- is named only where no chunk that counts is cut: where there is none that counts, and where the format is good and no data comes.
abbrev pub end_of : List ℕ → ℕ → List Chunk → ℕ
end_of bytes place [] = place
end_of bytes place (chunk ∷ chunks) = if is_cut bytes chunk then chunk.place else end_of bytes (next_place chunk) chunks

-- whether a chunk is one of the two that count
abbrev pub is_format_kind : Kind → Bool
is_format_kind FormatChunk = true
is_format_kind DataChunk = false
is_format_kind Other = false

abbrev pub is_data_kind : Kind → Bool
is_data_kind FormatChunk = false
is_data_kind DataChunk = true
is_data_kind Other = false

-- the first `fmt ` chunk and the first `data` chunk; later ones are skipped as others are
abbrev pub first_format : List Chunk → Option Chunk
first_format chunks = find (λ chunk. is_format_kind chunk.kind) chunks

abbrev pub first_data : List Chunk → Option Chunk
first_data chunks = find (λ chunk. is_data_kind chunk.kind) chunks

-- ---- the format

-- the tag of PCM samples, or that of WAVE_FORMAT_EXTENSIBLE with the subformat of PCM samples
abbrev pub pcm_guid : List ℕ
pcm_guid = 1 ∷ 0 ∷ 0 ∷ 0 ∷ 0 ∷ 0 ∷ 16 ∷ 0 ∷ 128 ∷ 0 ∷ 0 ∷ 170 ∷ 0 ∷ 56 ∷ 155 ∷ 113 ∷ []

unfoldable pub is_extended : List ℕ → Chunk → Bool
is_extended bytes chunk =
    nat_eq (number_at 2 bytes (chunk.place + 8)) 65534 && nat_le 40 chunk.size && bytes_eq (bytes_at 16 bytes (chunk.place + 32)) pcm_guid

unfoldable pub is_pcm : List ℕ → Chunk → Bool
is_pcm bytes chunk = nat_eq (number_at 2 bytes (chunk.place + 8)) 1 || is_extended bytes chunk

-- the widths that a sample can have
unfoldable pub is_width : ℕ → Bool
is_width bits = nat_eq bits 8 || nat_eq bits 16 || nat_eq bits 24 || nat_eq bits 32

-- 1 to 32 channels, and blocks of one sample for each of them
unfoldable pub has_shape : (channels bits block : ℕ) → Bool
has_shape channels bits block = nat_le 1 channels && nat_le channels 32 && nat_eq block (channels * (bits / 8))

-- whether a chunk is too short for a format, or the file for it
unfoldable pub is_short : List ℕ → Chunk → Bool
is_short bytes chunk = nat_lt chunk.size 16 || is_cut bytes chunk

-- The format in a chunk, or the first of its faults. The fields of the body are the tag, the channels, the frames a second,
-- the bytes a second (which may be any), the bytes of a block and the bits of a sample. The tag of an extension needs 40 bytes.
unfoldable pub format_in : List ℕ → Chunk → Result Format WavErr
format_in bytes chunk =
    if is_short bytes chunk then Err (NoFormat chunk.place)
    else if not (is_pcm bytes chunk) then Err (UnknownTag (chunk.place + 8))
    else if not (is_width (number_at 2 bytes (chunk.place + 22))) then Err (BadBits (chunk.place + 22))
    else if not (has_shape (number_at 2 bytes (chunk.place + 10)) (number_at 2 bytes (chunk.place + 22)) (number_at 2 bytes (chunk.place + 20)))
    then Err (BadShape (chunk.place + 10))
    else Ok (record {
      rate = number_at 4 bytes (chunk.place + 12);
      channels = number_at 2 bytes (chunk.place + 10);
      bits = number_at 2 bytes (chunk.place + 22);
    })

-- ---- the samples

-- a sample of 8 bits counts from 128 on, and a wider one is in two's complement
abbrev pub signed_sample : ℕ → ℕ → ℤ
signed_sample bits number = if nat_eq bits 8 then pos number -ℤ pos 128 else twos_complement (bits / 8) number

-- the Fix of a sample s, which stands for s / 2^(bits - 1)
abbrev pub fix_of : ℕ → ℤ → ℤ
fix_of bits sample = rnd (sample *ℤ pos (2 ^ 24)) (pos (2 ^ (bits - 1)))

-- the value of a sample by its bytes
unfoldable pub value_of : ℕ → List ℕ → ℤ
value_of bits sample = fix_of bits (signed_sample bits (little_number (bits / 8) sample))

-- the values of a channel in so many blocks from a place on, where a block has one sample of each channel
abbrev pub channel_values : List ℕ → Format → ℕ → ℕ → ℕ → List ℤ
channel_values bytes format start frames channel =
    map (λ frame. value_of format.bits (bytes_at (format.bits / 8) bytes (start + (frame * format.channels + channel) * (format.bits / 8))))
    (range_with_len 0 frames)

-- the values of all channels, one channel after another
abbrev pub values_in : List ℕ → Format → ℕ → ℕ → List ℤ
values_in bytes format start frames = flat_map (channel_values bytes format start frames) (range_with_len 0 format.channels)

-- how many whole blocks of a body the file has
abbrev pub frames_in : List ℕ → Format → Chunk → ℕ
frames_in bytes format chunk = (min (length bytes) (body_end chunk) - (chunk.place + 8)) / (format.channels * (format.bits / 8))

-- what is in the body of the data chunk, of which at least one block has to be there
unfoldable pub wav_in : List ℕ → Format → Chunk → Result Wav WavErr
wav_in bytes format chunk =
    if nat_eq (frames_in bytes format chunk) 0 then Err (NoData chunk.place)
    else Ok (record {
      rate = format.rate;
      channels = format.channels;
      frames = frames_in bytes format chunk;
      samples = values_in bytes format (chunk.place + 8) (frames_in bytes format chunk);
    })

-- ---- the answer

infixl 10 ◌>>=◌
abbrev pub ◌>>=◌ : {A B : Type 0} → Result A WavErr → (A → Result B WavErr) → Result B WavErr
(Ok x) >>= next = next x
(Err e) >>= next = Err e

-- the chunk of the format, before which no data may come
abbrev pub format_chunk_of : Option Chunk → Option Chunk → ℕ → Result Chunk WavErr
format_chunk_of None None end = Err (NoFormat end)
format_chunk_of None (Some data_chunk) end = Err (DataFirst data_chunk.place)
format_chunk_of (Some format_chunk) None end = Ok format_chunk
format_chunk_of (Some format_chunk) (Some data_chunk) end =
    if nat_lt data_chunk.place format_chunk.place then Err (DataFirst data_chunk.place) else Ok format_chunk

-- the chunk of the data
abbrev pub data_chunk_of : Option Chunk → ℕ → Result Chunk WavErr
data_chunk_of None end = Err (NoData end)
data_chunk_of (Some data_chunk) end = Ok data_chunk

-- The answer by the first `fmt ` chunk, the first `data` chunk and the end of the list: the first of the faults, or what is in
-- the data.
abbrev pub judged : List ℕ → Option Chunk → Option Chunk → ℕ → Result Wav WavErr
judged bytes first_format first_data end =
    format_chunk_of first_format first_data end >>= λ chunk.
    format_in bytes chunk >>= λ format.
    data_chunk_of first_data end >>= λ data_chunk.
    wav_in bytes format data_chunk

-- the answer by the whole list of chunks
abbrev pub judged_by : List ℕ → ℕ → List Chunk → Result Wav WavErr
judged_by bytes place chunks = judged bytes (first_format chunks) (first_data chunks) (end_of bytes place chunks)

-- what the bytes of a file are read as: the samples of a WAV file, or the first fault
unfoldable pub wav_of : List ℕ → Result Wav WavErr
wav_of bytes = if is_riff bytes then judged_by bytes 12 (chunks_from bytes 12) else Err (NotRiff 0)

-- what a recording is, without its samples
abbrev pub head : Wav → Head
head wav = record { rate = wav.rate; channels = wav.channels; frames = wav.frames }

-- that of a file that is read
abbrev pub head_of : List ℕ → Result Head WavErr
head_of bytes = wav_of bytes >>= λ wav. Ok (head wav)
