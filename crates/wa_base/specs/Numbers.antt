-- The number rules, over whole numbers without bounds.
use Rattle.std.specs.Prelude.{ℤ, pos, neg_ℤ, ◌+ℤ◌, ◌*ℤ◌, ◌≤ℤ◌, ◌^◌}
use Rattle.std.specs.Int.{int_div_euclid, saturate_to_bits}

-- a / b rounded to the nearest whole number, for b above 0: floor ((2a + b) / 2b), so halves go up
abbrev pub rnd : ℤ → ℤ → ℤ
rnd a b = int_div_euclid (pos 2 *ℤ a +ℤ b) (pos 2 *ℤ b)

-- the Fix nearest to x: from -2^31 to 2^31 - 1
abbrev pub sat : ℤ → ℤ
sat x = saturate_to_bits 31 x

-- the product of two Fix values, each v standing for v / 2^24
abbrev pub scale : ℤ → ℤ → ℤ
scale x g = sat (rnd (x *ℤ g) (pos (2 ^ 24)))

-- a value in units of 2^-24
abbrev pub IsFix : ℤ → Type 0
IsFix z = (neg_ℤ (pos 2147483648) ≤ℤ z) × (z ≤ℤ pos 2147483647)
