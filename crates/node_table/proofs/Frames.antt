-- A time in frames by a shift, and the ranges on the way to it.
use Rattle.std.proofs.Common.{◌≤◌, ◌<◌, ◌-◌, ◌*◌, ◌^◌, ◌+ℤ◌, ◌*ℤ◌, ℕ, ℤ, pos, negsuc, FitsSigned, arith}
use Rattle.std.specs.Prelude.{unsigned_abs}
use Rattle.std.specs.Int.{w32, w64}
use Rattle.std.proofs.lemmas.Int.{ints, unsigned_abs-mul}
use Rattle.std.proofs.lemmas.Nat.{mul-le}

abs_of_32_bits : (x : ℤ) → FitsSigned w32 x → unsigned_abs x ≤ 2 ^ 31
abs_of_32_bits (pos n) h = omega (arith, ints)
abs_of_32_bits (negsuc n) h = omega (arith, ints)

-- a time and a rate of 32 bits
pub abs_of_product : (x : ℤ) (rate : ℕ) → FitsSigned w32 x → rate < 2 ^ 32 → unsigned_abs (x *ℤ pos rate) ≤ 2 ^ 31 * (2 ^ 32 - 1)
abs_of_product x rate a b = rw (unsigned_abs-mul x (pos rate)) (mul-le (unsigned_abs x) rate (2 ^ 31) (2 ^ 32 - 1) (abs_of_32_bits x a) (omega arith))

pub product_fits : (z : ℤ) → unsigned_abs z ≤ 2 ^ 31 * (2 ^ 32 - 1) → FitsSigned w64 z
product_fits (pos n) h = omega (arith, ints)
product_fits (negsuc n) h = omega (arith, ints)

pub with_half_fits : (z : ℤ) → unsigned_abs z ≤ 2 ^ 31 * (2 ^ 32 - 1) → FitsSigned w64 (z +ℤ pos 8388608)
with_half_fits (pos n) h = omega (arith, ints)
with_half_fits (negsuc n) h = omega (arith, ints)

pub rate_fits : (rate : ℕ) → rate < 2 ^ 32 → FitsSigned w64 (pos rate)
rate_fits rate h = omega (arith, ints)
