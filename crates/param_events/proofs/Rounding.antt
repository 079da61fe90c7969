-- Rounding keeps the order.
use Rattle.std.proofs.Common.{ℕ, ℤ, pos, negsuc, ◌*◌, ◌/◌, ◌<◌, ◌≤◌, ◌≤ℤ◌, ◌+ℤ◌, ◌*ℤ◌, arith}
use Rattle.std.specs.Int.{int_div_euclid}
use Rattle.std.proofs.lemmas.Int.{ints}
use Rattle.std.proofs.lemmas.Nat.{le-div}
use Rattle.std.proofs.Math.Nat.{div-mul-le_self}
use Rattle.wa_base.specs.Numbers.{rnd}

pub div-le-div : (a b k : ℕ) → 0 < k → a ≤ b → a / k ≤ b / k
div-le-div a b k some l = le-div (a / k) b k some (omega (arith, div-mul-le_self a k))

euclid_order : (x y : ℤ) (k : ℕ) → 0 < k → x ≤ℤ y → int_div_euclid x (pos k) ≤ℤ int_div_euclid y (pos k)
euclid_order (pos a) (pos b) k some h = let l = div-le-div a b k some (omega (arith, ints)) in omega (arith, ints)
euclid_order (pos a) (negsuc b) k some h = absurd (omega (arith, ints))
euclid_order (negsuc a) (pos b) k some h = omega (arith, ints)
euclid_order (negsuc a) (negsuc b) k some h = let l = div-le-div b a k some (omega (arith, ints)) in omega (arith, ints)

-- a greater number is rounded to no less
pub rnd_order : (x y : ℤ) (k : ℕ) → 0 < k → x ≤ℤ y → rnd x (pos k) ≤ℤ rnd y (pos k)
rnd_order x y k some h = euclid_order (pos 2 *ℤ x +ℤ pos k) (pos 2 *ℤ y +ℤ pos k) (2 * k) (omega arith) (omega (arith, ints))
