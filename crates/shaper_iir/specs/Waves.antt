-- The state of a wave shaper.
use Rattle.std.specs.Prelude.{ℕ, ℤ, List, Option}

-- the curve in force, if there is one, and the number of channels that there is room for
pub record Wave : Type 0 where
  pub curve : Option (List ℤ)
  pub channels : ℕ
