-- Decodes: what the bytes of a WAV file are read as, and what decodeAudioData (BaseAudioContext) is answered. A place is a number of bytes from the start.
use Rattle.std.specs.Prelude.{take, length, Result, Ok, Err}
use Rattle.wa_base.specs.declared.features.Feature.TheVariants as feature
use Rattle.wav_io.specs.WavGrammar.{is_riff, kind_named, chunk_at, chunks_from, is_extended, is_pcm, is_width, has_shape, is_short, format_in, value_of, wav_in, wav_of}
use Rattle.buffer_store.specs.declared.wav.Wav.{Wav}
use Rattle.wav_io.specs.declared.wav.WavErr.{WavErr}
use Rattle.wav_io.specs.declared.wav.WavErr.TheVariants.{NotRiff, NoFormat, UnknownTag, BadBits, BadShape, NoData, DataFirst}
use Rattle.buffer_store.specs.declared.buffers.Buffer.{Buffer}
use Rattle.buffer_store.specs.Buffers.{total_of}
use Rattle.meaning.specs.declared.buffers.BufferEdit.TheVariants.{Adopt}
use Rattle.meaning.specs.declared.change.Edit.TheVariants.{Buffers}
use Rattle.script_ast.specs.declared.operations.Op.TheVariants as op
use Rattle.transcript.specs.declared.lines.Answer.TheVariants as answer
use Rattle.control_side.specs.Assets.{decodes, adopts, by_reading, rejected, unless_rejected}
use Rattle.control_side.specs.Step.{Stepped, step}
use Rattle.definition_rows.proofs.Machines.{ℕ, ℤ, pos, neg_ℤ, ◌≡◌, List, [], ◌∷◌, ◌++◌, map, codes, Option, None, Some, false, refl, NotSupported, NotFound, Encoding, Op, Machine, first_machine, call, one, context}

-- ---- how files are written

-- a number below 256 in two bytes, and in four
abbrev short : ℕ → List ℕ
short n = n ∷ 0 ∷ []

abbrev long : ℕ → List ℕ
long n = n ∷ 0 ∷ 0 ∷ 0 ∷ []

abbrev chunk : List ℕ → ℕ → List ℕ → List ℕ
chunk name size body = name ++ long size ++ body

-- the body of a format: 48,000 frames a second, and any number of bytes a second
abbrev format : List ℕ → ℕ → ℕ → ℕ → List ℕ
format tag channels block bits = tag ++ short channels ++ (128 ∷ 187 ∷ 0 ∷ 0 ∷ 7 ∷ 7 ∷ 7 ∷ 7 ∷ []) ++ short block ++ short bits

abbrev fmt : ℕ → ℕ → ℕ → List ℕ
fmt channels block bits = chunk (codes "fmt ") 16 (format (short 1) channels block bits)

abbrev data_of : ℕ → List ℕ → List ℕ
data_of = chunk (codes "data")

abbrev riff : List ℕ → List ℕ
riff chunks = codes "RIFF" ++ (255 ∷ 255 ∷ 255 ∷ 255 ∷ []) ++ codes "WAVE" ++ chunks

unfoldable read : List ℕ → Result Wav WavErr
unfolding is_riff kind_named chunk_at chunks_from is_extended is_pcm is_width has_shape is_short format_in value_of wav_in wav_of
read bytes = wav_of bytes

abbrev recording : ℕ → ℕ → List ℤ → Result Wav WavErr
recording channels frames samples = Ok (record { rate = 48000; channels = channels; frames = frames; samples = samples })

-- ---- a file without a reading, by what it lacks first

-- bytes that are no RIFF file, one without a format, one with data before it, and one without data or a whole block of it: the list of chunks ends where fewer than 8 bytes are left, and at a chunk that is skipped and does not lie in the file
chunks : (map read ([] ∷ take 11 (riff []) ∷ (codes "RIFX" ++ long 0 ++ codes "WAVE") ∷ (codes "RIFF" ++ long 0 ++ codes "WAVX") ∷ []) ≡ Err (NotRiff 0) ∷ Err (NotRiff 0) ∷ Err (NotRiff 0) ∷ Err (NotRiff 0) ∷ [])
    × (map read (riff [] ∷ riff (codes "fmt " ++ (1 ∷ 2 ∷ 3 ∷ [])) ∷ riff (chunk (codes "LIST") 4 (long 0)) ∷ riff (chunk (codes "LIST") 5 (long 0)) ∷ [])
    ≡ Err (NoFormat 12) ∷ Err (NoFormat 12) ∷ Err (NoFormat 24) ∷ Err (NoFormat 12) ∷ [])
    × (map read (riff (data_of 2 (short 0)) ∷ riff (data_of 2 (short 0) ++ fmt 1 2 16) ∷ riff (data_of 9 [] ++ fmt 1 2 16) ∷ []) ≡ Err (DataFirst 12) ∷ Err (DataFirst 12) ∷ Err (DataFirst 12) ∷ [])
    × (map read (riff (fmt 1 2 16 ++ (1 ∷ 2 ∷ 3 ∷ [])) ∷ riff (fmt 1 2 16 ++ chunk (codes "LIST") 3 (1 ∷ [])) ∷ riff (fmt 1 2 16 ++ data_of 0 []) ∷ riff (fmt 1 2 16 ++ data_of 1 (9 ∷ 0 ∷ [])) ∷ riff (fmt 1 2 16 ++ data_of 2 (9 ∷ [])) ∷ [])
    ≡ Err (NoData 36) ∷ Err (NoData 36) ∷ Err (NoData 36) ∷ Err (NoData 36) ∷ Err (NoData 36) ∷ [])
unfolding read
chunks = (refl, refl, refl, refl)

-- the extension of 40 bytes with the subformat of PCM samples, whatever its valid bits and its mask
abbrev subformat : ℕ → List ℕ
subformat first = first ∷ 0 ∷ 0 ∷ 0 ∷ 0 ∷ 0 ∷ 16 ∷ 0 ∷ 128 ∷ 0 ∷ 0 ∷ 170 ∷ 0 ∷ 56 ∷ 155 ∷ 113 ∷ []

abbrev extended : ℕ → ℕ → List ℕ
extended size first = chunk (codes "fmt ") size (format (254 ∷ 255 ∷ []) 1 2 16 ++ short 22 ++ short 9 ++ long 5 ++ subformat first)

-- A format's faults come in this order: its length, the tag, the bits, the channels with the block. Each width is read, and 1 and 32 channels; what follows decides then.
formats : (map read (riff (chunk (codes "fmt ") 15 (format (short 1) 1 2 16)) ∷ riff (take 23 (fmt 1 2 16)) ∷ []) ≡ Err (NoFormat 12) ∷ Err (NoFormat 12) ∷ [])
    × (map read (riff (chunk (codes "fmt ") 16 (format (short 3) 33 1 12)) ∷ riff (chunk (codes "fmt ") 16 (format (254 ∷ 255 ∷ []) 1 2 16)) ∷ []) ≡ Err (UnknownTag 20) ∷ Err (UnknownTag 20) ∷ [])
    × (map read (riff (extended 40 1) ∷ riff (extended 40 3) ∷ riff (extended 39 1) ∷ []) ≡ Err (NoData 60) ∷ Err (UnknownTag 20) ∷ Err (UnknownTag 20) ∷ [])
    × (map read (riff (fmt 33 1 12) ∷ riff (fmt 0 0 16) ∷ riff (fmt 33 33 8) ∷ riff (fmt 1 1 16) ∷ riff (fmt 2 2 16) ∷ []) ≡ Err (BadBits 34) ∷ Err (BadShape 22) ∷ Err (BadShape 22) ∷ Err (BadShape 22) ∷ Err (BadShape 22) ∷ [])
    × (map read (riff (fmt 1 1 8) ∷ riff (fmt 32 32 8) ∷ riff (fmt 1 2 16) ∷ riff (fmt 1 3 24) ∷ riff (fmt 1 4 32) ∷ []) ≡ Err (NoData 36) ∷ Err (NoData 36) ∷ Err (NoData 36) ∷ Err (NoData 36) ∷ Err (NoData 36) ∷ [])
unfolding read
formats = (refl, refl, refl, refl, refl)

-- A file of 85 bytes: a chunk of odd size, an extension, and data longer than the file, of which two frames are there. Cut to so many bytes it ends here or there.
abbrev whole : List ℕ
whole =
    riff (chunk (codes "LIST") 3 (65 ∷ 66 ∷ 67 ∷ 0 ∷ []) ++ codes "fmt " ++ long 40 ++ (254 ∷ 255 ∷ 1 ∷ 0 ∷ 128 ∷ 187 ∷ 0 ∷ 0 ∷ 0 ∷ 119 ∷ 1 ∷ 0 ∷ [])
    ++ short 2 ++ short 16 ++ short 22 ++ short 16 ++ long 4 ++ subformat 1 ++ codes "data" ++ (255 ∷ 255 ∷ 255 ∷ 255 ∷ 0 ∷ 64 ∷ 0 ∷ 192 ∷ 1 ∷ []))

cut : map (λ n. read (take n whole)) (0 ∷ 11 ∷ 12 ∷ 22 ∷ 23 ∷ 71 ∷ 72 ∷ 81 ∷ 82 ∷ 83 ∷ 84 ∷ 85 ∷ [])
    ≡ Err (NotRiff 0) ∷ Err (NotRiff 0) ∷ Err (NoFormat 12) ∷ Err (NoFormat 12) ∷ Err (NoFormat 24) ∷ Err (NoFormat 24) ∷ Err (NoData 72) ∷ Err (NoData 72) ∷ recording 1 1 (pos 8388608 ∷ []) ∷ recording 1 1 (pos 8388608 ∷ [])
    ∷ recording 1 2 (pos 8388608 ∷ neg_ℤ (pos 8388608) ∷ []) ∷ recording 1 2 (pos 8388608 ∷ neg_ℤ (pos 8388608) ∷ []) ∷ []
unfolding read
cut = refl

-- ---- a file with one

-- data that ends before the file, and past it; chunks of odd size, a later format and later data are skipped; and blocks have one sample of each channel, where a recording has one channel after another
recordings : (map read (riff (fmt 1 2 16 ++ data_of 2 (1 ∷ 0 ∷ 7 ∷ 7 ∷ [])) ∷ riff (fmt 1 2 16 ++ data_of 99 (1 ∷ 0 ∷ 2 ∷ 0 ∷ 7 ∷ [])) ∷ []) ≡ recording 1 1 (pos 512 ∷ []) ∷ recording 1 2 (pos 512 ∷ pos 1024 ∷ []) ∷ [])
    × (read (riff (chunk (codes "LIST") 1 (5 ∷ 0 ∷ []) ++ fmt 1 2 16 ++ chunk (codes "fmt ") 2 (short 9) ++ data_of 2 (short 3) ++ data_of 2 (short 4))) ≡ recording 1 1 (pos 1536 ∷ []))
    × (read (riff (fmt 2 2 8 ++ data_of 4 (129 ∷ 130 ∷ 131 ∷ 132 ∷ []))) ≡ recording 2 2 (pos 131072 ∷ pos 393216 ∷ pos 262144 ∷ pos 524288 ∷ []))
unfolding read
recordings = (refl, refl, refl)

-- the least, a middle and the greatest sample of each width; of 32 bits, 128 steps make one, and a half goes up
values : (read (riff (fmt 1 1 8 ++ data_of 3 (0 ∷ 128 ∷ 255 ∷ []))) ≡ recording 1 3 (neg_ℤ one ∷ pos 0 ∷ pos 16646144 ∷ []))
    × (read (riff (fmt 1 2 16 ++ data_of 6 (0 ∷ 128 ∷ 255 ∷ 255 ∷ 255 ∷ 127 ∷ []))) ≡ recording 1 3 (neg_ℤ one ∷ neg_ℤ (pos 512) ∷ pos 16776704 ∷ []))
    × (read (riff (fmt 1 3 24 ++ data_of 9 (0 ∷ 0 ∷ 128 ∷ 255 ∷ 255 ∷ 255 ∷ 255 ∷ 255 ∷ 127 ∷ []))) ≡ recording 1 3 (neg_ℤ one ∷ neg_ℤ (pos 2) ∷ pos 16777214 ∷ []))
    × (read (riff (fmt 1 4 32 ++ data_of 20 (0 ∷ 0 ∷ 0 ∷ 128 ∷ 191 ∷ 255 ∷ 255 ∷ 255 ∷ 192 ∷ 255 ∷ 255 ∷ 255 ∷ 63 ∷ 0 ∷ 0 ∷ 0 ∷ 64 ∷ 0 ∷ 0 ∷ 0 ∷ []))) ≡ recording 1 5 (neg_ℤ one ∷ neg_ℤ (pos 1) ∷ pos 0 ∷ pos 0 ∷ pos 1 ∷ []))
unfolding read
values = (refl, refl, refl, refl)

-- ---- decodeAudioData: a file, then not too long, then a WAV file, then the context's rate, then room
abbrev decode : Op
decode = op.DecodeAudioData (codes "x") (codes "a.wav")

unfoldable decoded : Machine → Option (List ℕ) → Stepped
unfolding read
decoded machine file = step machine (λ path. file) (call decode)

-- two frames at 48,000 frames a second
abbrev two_frames : List ℕ
two_frames = riff (fmt 1 2 16 ++ data_of 4 (1 ∷ 0 ∷ 2 ∷ 0 ∷ []))

abbrev at_rate : ℕ → Machine
at_rate rate = first_machine (context rate)

answers : (map (λ (file : Option (List ℕ)). (decoded (at_rate 48000) file).answer) (None ∷ Some [] ∷ Some (take 36 two_frames) ∷ Some two_frames ∷ [])
    ≡ answer.Rejected NotFound ∷ answer.Rejected Encoding ∷ answer.Rejected Encoding ∷ answer.Resolved ∷ [])
    × (map (λ (file : List ℕ). (decoded (at_rate 44100) (Some file)).answer) (take 36 two_frames ∷ two_frames ∷ [])
    ≡ answer.Rejected Encoding ∷ answer.Rejected (NotSupported (Some feature.Resampling)) ∷ [])
    × ((decoded (at_rate 48000) (Some two_frames)).machine.world.store
    ≡ record { shape = record { channels = 1; frames = 2; rate = 48000; frozen = false }; samples = pos 512 ∷ pos 1024 ∷ [] } ∷ [])
unfolding decoded read
answers = (refl, refl, refl)

-- 67,108,864 bytes are read, and one more is too many, whatever they are
longest : (machine : Machine) (bytes : List ℕ) → length bytes ≡ 67108864 → decodes machine (Some bytes) ≡ by_reading machine (wav_of bytes)
longest machine bytes long = rw long refl

too_long : (machine : Machine) (bytes : List ℕ) → length bytes ≡ 67108865 → decodes machine (Some bytes) ≡ rejected (NotSupported (Some feature.AssetSize))
too_long machine bytes long = rw long refl

-- two frames fit where all buffers have 134,217,726 samples, and not where they have one more; another rate is told before
abbrev stocked : List Buffer → Machine
stocked store = record (at_rate 48000) { world = record (at_rate 48000).world { store = store } }

abbrev wav : ℕ → Wav
wav rate = record { rate = rate; channels = 1; frames = 2; samples = pos 512 ∷ pos 1024 ∷ [] }

room_left : (store : List Buffer) → total_of store ≡ 134217726 → adopts (stocked store) (wav 48000) ≡ unless_rejected None (Buffers (Adopt (wav 48000)))
room_left store total = rw total refl

no_room_left : (store : List Buffer) → total_of store ≡ 134217727 → adopts (stocked store) (wav 48000) ≡ rejected (NotSupported (Some feature.BufferLimit))
no_room_left store total = rw total refl

rate_before_room : (store : List Buffer) → adopts (stocked store) (wav 44100) ≡ rejected (NotSupported (Some feature.Resampling))
rate_before_room store = refl
