-- Rounding division by a power of two as a shift, and how far the result is from 0.
use Rattle.std.proofs.Common.{◌≡◌, ◌≤◌, ◌+◌, ◌*◌, ◌/◌, ℕ, ◌+ℤ◌, ◌*ℤ◌, suc, ℤ, pos, negsuc, FitsSigned, to_z, of_z, sym, ap, ◌∙◌, arith}
use Rattle.std.proofs.Math.Nat.{div-div-eq-div-mul, div-le_self}
use Rattle.std.specs.Prelude.{unsigned_abs}
use Rattle.std.specs.Int.{w64, int_div_euclid}
use Rattle.std.proofs.lemmas.Int.{ints, to_z-of_z}
use lib.Signed.{shr_z, mag_shr}
use Rattle.wa_base.specs.Numbers.{rnd}
use Rattle.lane_kern.specs.Blocks.{IsWithin}

twice_over_twice : (n : ℕ) (z : ℤ) → int_div_euclid (z +ℤ z) (pos (2 * n)) ≡ shr_z z n
twice_over_twice n (pos a) =
    let halved : (a + a) / 2 ≡ a = omega arith in
    ap pos (sym (div-div-eq-div-mul (a + a) 2 n) ∙ ap (λ (k : ℕ). k / n) halved)
twice_over_twice n (negsuc a) =
    let halved : suc (a + a) / 2 ≡ a = omega arith in
    ap negsuc (sym (div-div-eq-div-mul (suc (a + a)) 2 n) ∙ ap (λ (k : ℕ). k / n) halved)

-- to round is to add half of the divisor and then to shift
rnd_by_shift : (n half : ℕ) (z : ℤ) → n ≡ half + half → rnd z (pos n) ≡ shr_z (z +ℤ pos half) n
rnd_by_shift n half z twice =
    let doubled : pos 2 *ℤ z +ℤ pos n ≡ (z +ℤ pos half) +ℤ (z +ℤ pos half) = omega (arith, ints) in
    ap (λ (v : ℤ). int_div_euclid v (pos (2 * n))) doubled ∙ twice_over_twice n (z +ℤ pos half)

shifted_fits : (n : ℕ) (z : ℤ) → FitsSigned w64 z → FitsSigned w64 (shr_z z n)
shifted_fits n z h = record { sfits = let less = mag_shr z n in let within = h.sfits in omega arith }

-- the code's rounded division of a sum
pub rounded : (n half : ℕ) (z : ℤ) → n ≡ half + half → FitsSigned w64 (z +ℤ pos half)
    → to_z w64 (of_z w64 (shr_z (to_z w64 (of_z w64 (z +ℤ pos half))) n)) ≡ rnd z (pos n)
rounded n half z twice fits =
    simp (to_z-of_z _ _ fits, to_z-of_z _ _ (shifted_fits n (z +ℤ pos half) fits)) (sym (rnd_by_shift n half z twice))

shift_within : (n : ℕ) (z : ℤ) → unsigned_abs (shr_z z n) ≤ unsigned_abs z
shift_within n (pos a) = div-le_self a n
shift_within n (negsuc a) = let less = div-le_self a n in omega arith

pub rnd_within : (n half bound : ℕ) (z : ℤ) → n ≡ half + half → unsigned_abs (z +ℤ pos half) ≤ bound → IsWithin bound (rnd z (pos n))
rnd_within n half bound z twice small = rw (rnd_by_shift n half z twice) (let less = shift_within n (z +ℤ pos half) in omega arith)
