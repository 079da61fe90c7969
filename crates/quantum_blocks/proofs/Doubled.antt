-- A gain in both halves of a lane, of which the shifts leave one.
use Rattle.std.proofs.Common.{ℕ, zero, suc, ℤ, pos, negsuc, ◌≡◌, ◌<◌, ◌+◌, ◌*◌, ◌/◌, ◌%◌, ◌^◌, ◌-◌, [], ◌∷◌, map, FitsSigned, ap, sym, ◌∙◌, to_z, of_z, arith, refl}
use Rattle.std.specs.Int.{w32, w64}
use Rattle.std.specs.Simd.Lanes.{number_l, digits_l}
use Rattle.std.proofs.lemmas.Int.{ints, to_z-of_z, to_z_pos}
use Rattle.std.proofs.Math.Facts.{to_z-neg, Fits-of_z}
use Rattle.std.proofs.Math.Arith.{mod-mul}
use native.Mathlib.Nat.{pow-suc, one-le-pow, mod-eq_of_lt}
use lib.Signed.{shr_z}

-- the digits of a number make what its lowest digits are
by_low_digit : (x m : ℕ) → 0 < m → x % (m * 256) ≡ x % 256 + 256 * (x / 256 % m)
by_low_digit x m h = mod-mul x h (omega arith) ∙ grind arith

number_of_digits : (n x : ℕ) → number_l 256 (digits_l 256 n x) ≡ x % 256 ^ n
number_of_digits zero x = omega arith
number_of_digits (suc n) x = rw (number_of_digits n (x / 256)) (sym (ap (λ k. x % k) (pow-suc 256 n) ∙ by_low_digit x (256 ^ n) (omega (arith, one-le-pow n 256 (omega arith)))))

-- the low half of a lane, with its sign
abbrev low_half : ℕ → ℤ
low_half n = to_z w64 (of_z w64 (shr_z (to_z w64 (n * 4294967296 % 18446744073709551616)) 4294967296))

low_half_is : (g : ℤ) → FitsSigned w32 g → (m : ℕ) → m % 4294967296 ≡ of_z w32 g → low_half m ≡ g
low_half_is g h m e = shifted_back g h (m * 4294967296 % 18446744073709551616) (omega (arith, e))
  where
    -- the number of a lane whose high half is a number of 32 bits
    shifted_back : (g : ℤ) → FitsSigned w32 g → (n : ℕ) → n ≡ of_z w32 g * 4294967296 → to_z w64 (of_z w64 (shr_z (to_z w64 n) 4294967296)) ≡ g
    shifted_back (pos k) h n e =
        let small : k < 2147483648 = h.sfits in
        let wide : to_z w64 n ≡ pos n = to_z_pos w64 n (omega (arith, e, small)) in
        let back : n / 4294967296 ≡ k = omega (arith, e) in
        let fits : FitsSigned w64 (pos k) = omega (arith, ints, small) in
        rw wide (rw back (to_z-of_z w64 (pos k) fits))
    shifted_back (negsuc k) h n e =
        let small : k < 2147483648 = h.sfits in
        let m = k * 4294967296 + 4294967295 in
        let is : n ≡ 18446744073709551616 - suc m = omega (arith, e, small) in
        let wide : to_z w64 n ≡ negsuc m = ap (to_z w64) is ∙ to_z-neg w64 m (omega (arith, small)) in
        let back : m / 4294967296 ≡ k = omega arith in
        let fits : FitsSigned w64 (negsuc k) = omega (arith, ints, small) in
        rw wide (rw back (to_z-of_z w64 (negsuc k) fits))

-- eight numbers of 32 bits, as one
abbrev joined : ℕ → ℕ
joined g = number_l 4294967296 (g ∷ g ∷ g ∷ g ∷ g ∷ g ∷ g ∷ g ∷ [])

pub doubled_is : (gain : ℤ) → FitsSigned w32 gain → map low_half (digits_l 18446744073709551616 4 (number_l 256 (digits_l 256 32 (joined (of_z w32 gain))))) ≡ gain ∷ gain ∷ gain ∷ gain ∷ []
doubled_is gain h =
    let g = of_z w32 gain in
    let small : g < 4294967296 = (Fits-of_z h).fits in
    let all = joined g in
    let whole : number_l 256 (digits_l 256 32 all) ≡ all = number_of_digits 32 all ∙ mod-eq_of_lt (omega (arith, small)) in
    let first = low_half_is gain h (all % 18446744073709551616) (omega (arith, small)) in
    let second = low_half_is gain h (all / 18446744073709551616 % 18446744073709551616) (omega (arith, small)) in
    let third = low_half_is gain h (all / 18446744073709551616 / 18446744073709551616 % 18446744073709551616) (omega (arith, small)) in
    let fourth = low_half_is gain h (all / 18446744073709551616 / 18446744073709551616 / 18446744073709551616 % 18446744073709551616) (omega (arith, small)) in
    ap (λ z. map low_half (digits_l 18446744073709551616 4 z)) whole ∙ rw (first, second, third, fourth) refl
