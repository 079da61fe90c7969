-- Bounds on absolute values.
use Rattle.std.proofs.Common.{ℤ, pos, negsuc, ◌+◌, ◌≤◌, ◌^◌, ◌+ℤ◌, ◌*ℤ◌, arith, FitsSigned}
use Rattle.std.specs.Int.{w32, w64, w128}
use Rattle.std.specs.Prelude.{unsigned_abs}
use Rattle.std.proofs.lemmas.Int.{ints, unsigned_abs-mul}
use Rattle.std.proofs.lemmas.Nat.{mul-le}

pub fits_128 : (z : ℤ) → unsigned_abs z ≤ 2 ^ 120 → FitsSigned w128 z
fits_128 (pos n) h = record { sfits = omega (arith, ints) }
fits_128 (negsuc n) h = record { sfits = omega (arith, ints) }

pub abs_sum : (a b : ℤ) → unsigned_abs (a +ℤ b) ≤ unsigned_abs a + unsigned_abs b
abs_sum (pos a) (pos b) = omega (arith, ints)
abs_sum (pos a) (negsuc b) = omega (arith, ints)
abs_sum (negsuc a) (pos b) = omega (arith, ints)
abs_sum (negsuc a) (negsuc b) = omega (arith, ints)

pub abs_of_32_bits : (x : ℤ) → FitsSigned w32 x → unsigned_abs x ≤ 2 ^ 31
abs_of_32_bits (pos n) h = omega (arith, ints, h.sfits)
abs_of_32_bits (negsuc n) h = omega (arith, ints, h.sfits)

pub abs_of_64_bits : (x : ℤ) → FitsSigned w64 x → unsigned_abs x ≤ 2 ^ 63
abs_of_64_bits (pos n) h = omega (arith, ints, h.sfits)
abs_of_64_bits (negsuc n) h = omega (arith, ints, h.sfits)

-- a coefficient times an item
pub product_small : (x y : ℤ) → unsigned_abs x ≤ 2 ^ 34 → FitsSigned w64 y → unsigned_abs (x *ℤ y) ≤ 2 ^ 97
product_small x y a b = rw (unsigned_abs-mul x y) (mul-le _ _ _ _ a (abs_of_64_bits y b))
