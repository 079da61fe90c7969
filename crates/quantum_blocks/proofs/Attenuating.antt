-- A product with a gain below 1.0 and above -1.0 needs no saturation.
use Rattle.std.proofs.Common.{length, subst, ℕ, zero, suc, List, [], ◌∷◌, slice_index_or, ◌≡◌, ◌≤◌, ◌<◌, ◌+◌, ◌*◌, ◌/◌, ◌^◌, ◌-◌, ◌%◌, ◌+ℤ◌, ◌*ℤ◌, ℤ, pos, negsuc, FitsSigned, ◌∙◌, ap, sym, to_z, of_z, arith, rules}
use Rattle.std.specs.Prelude.{unsigned_abs}
use Rattle.std.specs.Int.{w32, w64, int_wrap}
use Rattle.std.proofs.lemmas.Int.{ints, unsigned_abs-mul, to_z-of_z, wrapping_mul_is, wrapping_add-bits, int_wrap_fits}
use Rattle.std.proofs.lemmas.Nat.{mul-le}
use Rattle.std.proofs.lemmas.Simd.{get_or-put_chunk_at}
use Rattle.std.specs.Simd.Lanes.{put_chunk}
use lib.Signed.{shr_z}
use Rattle.wa_base.specs.Numbers.{sat, scale}
use Rattle.wa_base.proofs.Rounding.{rnd_by_shift, shifted_fits}
use Rattle.lane_kern.specs.Blocks.{IsWithin}

abs_of_32_bits : (x : ℤ) → FitsSigned w32 x → unsigned_abs x ≤ 2 ^ 31
abs_of_32_bits (pos n) h = omega (arith, ints)
abs_of_32_bits (negsuc n) h = omega (arith, ints)

pub abs_below : (x g : ℤ) → FitsSigned w32 x → IsWithin (2 ^ 24 - 1) g → unsigned_abs (x *ℤ g) ≤ 2 ^ 31 * (2 ^ 24 - 1)
abs_below x g a b = rw (unsigned_abs-mul x g) (mul-le _ _ _ _ (abs_of_32_bits x a) b)

shifted : (z : ℤ) → unsigned_abs z ≤ 2 ^ 31 * (2 ^ 24 - 1) + 8388608 → FitsSigned w32 (shr_z z 16777216)
shifted (pos n) h = let less : n / 16777216 < 2 ^ 31 = omega (arith, ints) in record { sfits = less }
shifted (negsuc n) h = let less : n / 16777216 < 2 ^ 31 = omega (arith, ints) in record { sfits = less }

-- the product, rounded, is a sample
pub rounded_fits : (z : ℤ) → unsigned_abs z ≤ 2 ^ 31 * (2 ^ 24 - 1) → FitsSigned w32 (shr_z (z +ℤ pos 8388608) 16777216)
rounded_fits z h = shifted _ (omega (arith, ints))

-- what is a sample is saturated as it is
pub sat_same : (z : ℤ) → FitsSigned w32 z → sat z ≡ z
sat_same (pos n) h = omega (arith, ints)
sat_same (negsuc n) h = omega (arith, ints)

pub product_fits : (z : ℤ) → unsigned_abs z ≤ 2 ^ 31 * (2 ^ 24 - 1) → FitsSigned w64 z
product_fits (pos n) h = omega (arith, ints)
product_fits (negsuc n) h = omega (arith, ints)

pub with_half_fits : (z : ℤ) → unsigned_abs z ≤ 2 ^ 31 * (2 ^ 24 - 1) → FitsSigned w64 (z +ℤ pos 8388608)
with_half_fits (pos n) h = omega (arith, ints)
with_half_fits (negsuc n) h = omega (arith, ints)

-- what is left of x times g in a lane of 64 bits, rounded
abbrev pub lane : ℤ → ℤ → ℤ
lane x g = to_z w64 (of_z w64 (shr_z (to_z w64 (((of_z w64 (to_z w32 (of_z w32 x)) * of_z w64 (to_z w32 (of_z w32 g))) % 2 ^ 64 + 8388608) % 2 ^ 64)) 16777216))

module _ (x g : ℤ) (x_fits : FitsSigned w32 x) (g_fits : FitsSigned w32 g) (small : IsWithin (2 ^ 24 - 1) g) where
  sum_is : to_z w64 (((of_z w64 x * of_z w64 g) % 2 ^ 64 + 8388608) % 2 ^ 64) ≡ x *ℤ g +ℤ pos 8388608
  sum_is =
      let wide_x : FitsSigned w64 x = search rules in
      let wide_g : FitsSigned w64 g = search rules in
      let below = abs_below x g x_fits small in
      let product : to_z w64 ((of_z w64 x * of_z w64 g) % 2 ^ 64) ≡ x *ℤ g = wrapping_mul_is w64 x g wide_x wide_g ∙ int_wrap_fits w64 (x *ℤ g) (product_fits (x *ℤ g) below) in
      wrapping_add-bits w64 ((of_z w64 x * of_z w64 g) % 2 ^ 64) 8388608 (omega arith) (omega arith)
      ∙ ap (λ z. int_wrap w64 (z +ℤ pos 8388608)) product
      ∙ int_wrap_fits w64 (x *ℤ g +ℤ pos 8388608) (with_half_fits (x *ℤ g) below)

  lane_is_rounded : lane x g ≡ shr_z (x *ℤ g +ℤ pos 8388608) 16777216
  lane_is_rounded =
      let with_half = with_half_fits (x *ℤ g) (abs_below x g x_fits small) in
      rw (to_z-of_z w32 x x_fits) (rw (to_z-of_z w32 g g_fits) (rw sum_is (to_z-of_z w64 (shr_z (x *ℤ g +ℤ pos 8388608) 16777216) (shifted_fits _ with_half))))

  pub lane_fits : FitsSigned w32 (lane x g)
  lane_fits = rw lane_is_rounded (rounded_fits (x *ℤ g) (abs_below x g x_fits small))

  pub lane_is : to_z w32 (of_z w32 (lane x g)) ≡ scale x g
  lane_is =
      let fits = rounded_fits (x *ℤ g) (abs_below x g x_fits small) in
      to_z-of_z w32 (lane x g) lane_fits ∙ lane_is_rounded ∙ sym (sat_same _ fits) ∙ ap sat (sym (rnd_by_shift (x *ℤ g)))

sat_fits : (z : ℤ) → FitsSigned w32 (sat z)
sat_fits (pos n) = omega (arith, ints)
sat_fits (negsuc n) = omega (arith, ints)

-- a product that was computed from what was read, and written
pub stored : (x g : ℤ) → FitsSigned w32 x → FitsSigned w32 g → to_z w32 (of_z w32 (scale (to_z w32 (of_z w32 x)) (to_z w32 (of_z w32 g)))) ≡ scale x g
stored x g x_fits g_fits = rw (to_z-of_z w32 x x_fits) (rw (to_z-of_z w32 g g_fits) (to_z-of_z w32 (scale x g) (sat_fits _)))

-- what a lane of the result keeps of value k
abbrev pub kept : List ℤ → ℤ → ℕ → ℤ
kept xs g k = to_z w32 (of_z w32 (scale (to_z w32 (of_z w32 (slice_index_or xs k (pos 0)))) (to_z w32 (of_z w32 g))))

pub four_stored : (xs : List ℤ) (g : ℤ) → FitsSigned w32 g
    → FitsSigned w32 (slice_index_or xs 0 (pos 0)) → FitsSigned w32 (slice_index_or xs 1 (pos 0))
    → FitsSigned w32 (slice_index_or xs 2 (pos 0)) → FitsSigned w32 (slice_index_or xs 3 (pos 0))
    → (k : ℕ) → k < 4
    → slice_index_or (kept xs g 0 ∷ kept xs g 1 ∷ kept xs g 2 ∷ kept xs g 3 ∷ []) k (pos 0) ≡ scale (slice_index_or xs k (pos 0)) g
four_stored xs g h a b c d zero low = stored _ g a h
four_stored xs g h a b c d (suc zero) low = stored _ g b h
four_stored xs g h a b c d (suc (suc zero)) low = stored _ g c h
four_stored xs g h a b c d (suc (suc (suc zero))) low = stored _ g d h
four_stored xs g h a b c d (suc (suc (suc (suc k)))) low = absurd (omega arith)

-- what four lanes wrote to the front
pub written : (xs ys : List ℤ) (k : ℕ) → k < length ys → length ys ≤ length xs → slice_index_or (put_chunk 0 xs ys) k (pos 0) ≡ slice_index_or ys k (pos 0)
written xs ys k low room =
    let same : 0 + k ≡ k = omega arith in
    subst (λ j. slice_index_or (put_chunk 0 xs ys) j (pos 0) ≡ slice_index_or ys k (pos 0)) same (get_or-put_chunk_at 0 xs ys k (pos 0) low (omega (arith, room)))
