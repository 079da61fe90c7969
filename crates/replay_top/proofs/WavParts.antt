-- A WAV file as its header, its samples and its padding, and its samples in pieces.
use Rattle.std.proofs.Common.{◌≡◌, ◌≤◌, ◌+◌, ◌*◌, ◌/◌, ◌⊎◌, ℕ, ℤ, List, ◌++◌, length, take, drop, refl, sym, inl, inr, arith}
use Rattle.std.proofs.Math.Nat.{mul_comm, add-mul, mul-le-mul_right}
use Rattle.std.proofs.lemmas.List.{length-take-le, take_all}
use Rattle.std.proofs.lemmas.List.FromFn.{length-map-range_with_len}
use Rattle.std.proofs.Math.Seq.{take-add}
use Rattle.wa_base.specs.declared.contexts.ContextSpec.{ContextSpec}
use Rattle.session.specs.Rows.{interleaved_sample, interleaved}
use Rattle.wav_io.specs.WavText.{header_bytes, samples_bytes, padding, data_size}
use Rattle.wav_io.proofs.WavLemmas.{samples_bytes-append}
use Rattle.replay_top.specs.WavFile.{wav_of}

-- a sample has 16 or 24 bits
abbrev pub IsKnown : ℕ → Type 0
IsKnown bits = (bits ≡ 16) ⊎ (bits ≡ 24)

pub data_size-bytes : (bits channels frames size : ℕ) → IsKnown bits → size ≡ channels * frames → data_size channels bits frames ≡ size * (bits / 8)
data_size-bytes bits channels frames size (inl short) is = let turned : frames * channels ≡ channels * frames = mul_comm frames channels in rw short (omega (arith, turned, is))
data_size-bytes bits channels frames size (inr long) is = let turned : frames * channels ≡ channels * frames = mul_comm frames channels in rw long (omega (arith, turned, is))

pub wav_of-parts : (bits : ℕ) (spec : ContextSpec) (samples : List ℤ) (size : ℕ) → IsKnown bits → size ≡ spec.channels * spec.length
    → wav_of bits spec samples ≡ (header_bytes spec.rate spec.channels bits spec.length ++ samples_bytes bits samples) ++ padding (size * (bits / 8))
unfolding wav_of
wav_of-parts bits spec samples size known is = let bytes = data_size-bytes bits spec.channels spec.length size known is in rw bytes refl

-- the samples of the frames from `at` on follow those before them
pub samples_bytes-next : (bits at next channels count : ℕ) (vs : List ℤ) → count ≡ next * channels
    → samples_bytes bits (take (at * channels) vs) ++ samples_bytes bits (take count (drop (at * channels) vs)) ≡ samples_bytes bits (take ((at + next) * channels) vs)
samples_bytes-next bits at next channels count vs is =
    rw (add-mul, ← is, take-add) (sym (samples_bytes-append bits (take (at * channels) vs) (take count (drop (at * channels) vs))))

-- a piece of whole frames has room in the buffer
piece_within : (next most channels : ℕ) → next ≤ most → most * channels ≤ 21845 → next * channels ≤ 21845
piece_within next most channels some room = let more = mul-le-mul_right channels some in omega (arith, more, room)

-- so many frames more are no more than there are
pub frames_within : (at next frames channels : ℕ) → at + next ≤ frames → at * channels + next * channels ≤ channels * frames
frames_within at next frames channels within =
    let more : (at + next) * channels ≤ frames * channels = mul-le-mul_right channels within in
    let both : (at + next) * channels ≡ at * channels + next * channels = add-mul at next channels in
    let turned : frames * channels ≡ channels * frames = mul_comm frames channels in
    omega (arith, more, both, turned)

-- all samples are taken where all frames are
pub all_frames : (at : ℕ) (spec : ContextSpec) (samples : List ℤ) → spec.length ≤ at → take (at * spec.channels) (interleaved spec samples) ≡ interleaved spec samples
unfolding interleaved
all_frames at spec samples done =
    let long : length (interleaved spec samples) ≡ spec.channels * spec.length = length-map-range_with_len (interleaved_sample spec samples) 0 (spec.channels * spec.length) in
    let more : spec.length * spec.channels ≤ at * spec.channels = mul-le-mul_right spec.channels done in
    let turned : spec.length * spec.channels ≡ spec.channels * spec.length = mul_comm spec.length spec.channels in
    take_all (at * spec.channels) (interleaved spec samples) (omega (arith, long, more, turned))

-- the piece holds the samples of the next frames
pub piece_count : (next most channels : ℕ) (samples : List ℤ) → next ≤ most → most * channels ≤ 21845 → length samples ≡ 21845 → length (take (next * channels) samples) ≡ next * channels
piece_count next most channels samples some room long =
    let within = piece_within next most channels some room in
    length-take-le (next * channels) samples (omega (arith, within, long))
