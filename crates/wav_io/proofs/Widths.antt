-- The widths of samples, and the places of samples in their blocks.
use Rattle.std.proofs.Common.{to_z, ◌≡◌, ℕ, ◌+◌, ◌*◌, ◌-◌, ◌/◌, ◌<◌, ◌≤◌, ◌⊎◌, List, IsTrue, refl, arith}
use Rattle.std.proofs.Math.Nat.{div-mul-le_self, mul-le-mul_left, mul-le-mul_right}
use Rattle.std.proofs.lemmas.Bool.Decides.{nat_tests}
use Rattle.std.specs.Prelude.{min}
use Rattle.std.specs.Int.{w16, w32}
use Rattle.byteorder.specs.Endian.{little_number, twos_complement}
use Rattle.wav_io.specs.WavGrammar.{is_width, value_of, fix_of}

pub width_cases : (bits : ℕ) → IsTrue (is_width bits) → (bits ≡ 8) ⊎ ((bits ≡ 16) ⊎ ((bits ≡ 24) ⊎ (bits ≡ 32)))
unfolding is_width
width_cases bits is = grind (arith, nat_tests)

pub width_low : (bits : ℕ) → IsTrue (is_width bits) → 1 ≤ bits / 8
width_low bits is = let cases = width_cases bits is in grind arith

pub width_high : (bits : ℕ) → IsTrue (is_width bits) → bits / 8 ≤ 4
width_high bits is = let cases = width_cases bits is in grind arith

pub value_of-16 : (bits : ℕ) (sample : List ℕ) → bits ≡ 16 → value_of bits sample ≡ fix_of 16 (twos_complement 2 (little_number 2 sample))
unfolding value_of
value_of-16 bits sample is = rw is refl

pub value_of-24 : (bits : ℕ) (sample : List ℕ) → bits ≡ 24 → value_of bits sample ≡ fix_of 24 (twos_complement 3 (little_number 3 sample))
unfolding value_of
value_of-24 bits sample is = rw is refl

pub value_of-32 : (bits : ℕ) (sample : List ℕ) → bits ≡ 32 → value_of bits sample ≡ fix_of 32 (twos_complement 4 (little_number 4 sample))
unfolding value_of
value_of-32 bits sample is = rw is refl

pub complement_16 : (x : ℕ) → x < 65536 → to_z w16 x ≡ twos_complement 2 x
complement_16 x small = grind (arith, nat_tests)

pub complement_32 : (x : ℕ) → x < 4294967296 → to_z w32 x ≡ twos_complement 4 x
complement_32 x small = grind (arith, nat_tests)

-- a sample of a block that is there is there
pub sample_within : (frame frames channel channels width : ℕ) → frame < frames → channel < channels
    → (frame * channels + channel) * width + width ≤ frames * (channels * width)
sample_within frame frames channel channels width in_frames in_channels =
    let blocks : frame * channels + channels ≤ frames * channels =
    omega (arith, mul-le-mul_right channels (let h : frame + 1 ≤ frames = omega arith in h)) in
    omega (arith, mul-le-mul_right width (let h : frame * channels + channel + 1 ≤ frames * channels = omega arith in h))

pub index_within : (frame frames channel channels width : ℕ) → 1 ≤ width → frame < frames → channel < channels
    → frame * channels + channel < frames * (channels * width)
index_within frame frames channel channels width some in_frames in_channels =
    let within = sample_within frame frames channel channels width in_frames in_channels in
    omega (arith, within, mul-le-mul_left (frame * channels + channel) some)

pub values_within : (frames channels width : ℕ) → 1 ≤ width → frames * channels ≤ frames * (channels * width)
values_within frames channels width some = omega (arith, mul-le-mul_left (frames * channels) some)

pub block_high : (channels bits : ℕ) → channels ≤ 32 → IsTrue (is_width bits) → channels * (bits / 8) ≤ 128
block_high channels bits few is =
    omega (arith, mul-le-mul_right (bits / 8) few, mul-le-mul_left 32 (width_high bits is))

pub block_low : (channels bits : ℕ) → 1 ≤ channels → IsTrue (is_width bits) → 0 < channels * (bits / 8)
block_low channels bits some is = omega (arith, mul-le-mul_left channels (width_low bits is))

-- the blocks of a body are in it
pub blocks_within : (length start end block : ℕ) → 0 < block → start ≤ length → start + (min length end - start) / block * block ≤ length
blocks_within length start end block some there =
    omega (arith, div-mul-le_self (min length end - start) block)
