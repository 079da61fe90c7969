-- Bounds on absolute values.
use Rattle.std.proofs.Common.{ℤ, pos, negsuc, ◌≡◌, ◌+◌, ◌≤◌, ◌^◌, ◌+ℤ◌, ◌*ℤ◌, arith, FitsSigned}
use Rattle.std.specs.Int.{w32, w64, w128}
use Rattle.std.specs.Prelude.{unsigned_abs}
use Rattle.std.proofs.lemmas.Int.{ints, unsigned_abs-mul}
use Rattle.std.proofs.lemmas.Nat.{mul-le}

pub fits_128 : (z : ℤ) → unsigned_abs z ≤ 2 ^ 100 → FitsSigned w128 z
fits_128 (pos n) h = record { sfits = omega (arith, ints) }
fits_128 (negsuc n) h = record { sfits = omega (arith, ints) }

pub fits_64 : (z : ℤ) → unsigned_abs z ≤ 7000000000000000000 → FitsSigned w64 z
fits_64 (pos n) h = record { sfits = omega (arith, ints) }
fits_64 (negsuc n) h = record { sfits = omega (arith, ints) }

pub abs_sum : (a b : ℤ) → unsigned_abs (a +ℤ b) ≤ unsigned_abs a + unsigned_abs b
abs_sum (pos a) (pos b) = omega (arith, ints)
abs_sum (pos a) (negsuc b) = omega (arith, ints)
abs_sum (negsuc a) (pos b) = omega (arith, ints)
abs_sum (negsuc a) (negsuc b) = omega (arith, ints)

pub abs_of_sum : (sum a b : ℤ) → sum ≡ a +ℤ b → unsigned_abs sum ≤ unsigned_abs a + unsigned_abs b
abs_of_sum sum a b is = rw is (abs_sum a b)

abs_of_32_bits : (x : ℤ) → FitsSigned w32 x → unsigned_abs x ≤ 2 ^ 31
abs_of_32_bits (pos n) h = omega (arith, ints, h.sfits)
abs_of_32_bits (negsuc n) h = omega (arith, ints, h.sfits)

-- a sample of a response times a frame
pub product_small : (tap frame : ℤ) → unsigned_abs tap ≤ 2 ^ 25 → FitsSigned w32 frame → unsigned_abs (tap *ℤ frame) ≤ 2 ^ 56
product_small tap frame small fits = rw (unsigned_abs-mul tap frame) (mul-le _ _ _ _ small (abs_of_32_bits frame fits))
