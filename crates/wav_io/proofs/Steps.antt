-- One sample more in a loop that writes them.
use Rattle.std.proofs.Common.{◌≡◌, ℕ, ◌+◌, ◌*◌, ◌/◌, ◌<◌, ◌≤◌, ℤ, pos, negsuc, FitsSigned, List, ◌++◌, length, take, get_or, refl, sym, ap, ◌∙◌, arith}
use Rattle.std.proofs.lemmas.Int.{ints}
use Rattle.std.proofs.lemmas.List.{take_all, take_at}
use Rattle.std.proofs.lemmas.Slice.{take-put_mid}
use borrow.Rule.Slice.PartMut.{put_mid}
use Rattle.std.specs.Int.{w16, w64, cast_unsigned}
use Rattle.byteorder.specs.Endian.{low_bytes}
use Rattle.wav_io.specs.WavText.{sample_bytes, samples_bytes}
use Rattle.wav_io.proofs.WavLemmas.{length-sample_bytes, samples_bytes-take_more}

-- of a number of 16 bits the lowest two bytes are all
pub low_bytes_16 : (z : ℤ) → FitsSigned w16 z → low_bytes w64 2 z ≡ cast_unsigned w16 z
low_bytes_16 (pos n) h = omega (arith, ints)
low_bytes_16 (negsuc n) h = omega (arith, ints)

-- what a write to the next n bytes of `out` leaves, where it wrote the sample of the next value
pub one_more : (bits n i k : ℕ) (rows : List ℤ) (out buf rest : List ℕ) → n ≡ bits / 8 → n * i ≤ length out → i < length rows
    → length buf ≡ n → buf ≡ sample_bytes bits (get_or rows i (pos 0)) ++ rest → take (n * i) out ≡ samples_bytes bits (take i rows)
    → take (n * (i + 1)) (put_mid (n * i) k out buf) ≡ samples_bytes bits (take (i + 1) rows)
one_more bits n i k rows out buf rest size room within whole written before =
    let next : ℤ = get_or rows i (pos 0) in
    let len : length (sample_bytes bits next) ≡ n = length-sample_bytes bits next ∙ sym size in
    let buf_is : buf ≡ sample_bytes bits next =
    sym (take_all n buf (omega arith)) ∙ ap (take n) written ∙ take_at (sample_bytes bits next) rest n len in
    take-put_mid (n * i) k out buf (n * (i + 1)) (omega arith) room
    ∙ rw (before, buf_is, samples_bytes-take_more bits i rows within) refl
