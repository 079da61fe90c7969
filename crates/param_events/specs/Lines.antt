-- How much of a rise a part of it can be.
use Rattle.std.specs.Prelude.{ℤ, pos, ◌≤ℤ◌}

-- a part lies between nothing and the whole, whether the whole goes up or down
pub record IsPartOf (whole part : ℤ) : Type 0 where
  pub up : (pos 0 ≤ℤ whole) → (pos 0 ≤ℤ part) × (part ≤ℤ whole)
  pub down : (whole ≤ℤ pos 0) → (part ≤ℤ pos 0) × (whole ≤ℤ part)
