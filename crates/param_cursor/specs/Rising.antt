-- A quotient whose numerator rises.
use Rattle.std.specs.Prelude.{ℕ, ◌/◌, ℤ, pos, ◌+ℤ◌, ◌*ℤ◌}
use Rattle.std.specs.Int.{int_div_euclid}

-- a numerator that rises by a step from frame to frame, over a divisor
pub record Rising : Type 0 where
  pub numerator : ℤ
  pub step : ℤ
  pub divisor : ℕ

-- the rounded share of a rise after n of so many parts, where each frame takes `gain` parts: half the divisor is added, and the quotient is rounded down
abbrev pub share_rising : ℤ → ℕ → ℕ → ℕ → Rising
share_rising rise n gain parts = record {
  numerator = rise *ℤ pos n +ℤ pos (parts / 2);
  step = rise *ℤ pos gain;
  divisor = parts;
}

-- the numerator so many frames on
abbrev pub numerator_on : Rising → ℕ → ℤ
numerator_on rising k = rising.numerator +ℤ rising.step *ℤ pos k

-- the quotient so many frames on, added to a value
abbrev pub value_on : ℤ → Rising → ℕ → ℤ
value_on from rising k = from +ℤ int_div_euclid (numerator_on rising k) (pos rising.divisor)
