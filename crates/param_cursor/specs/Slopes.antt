-- What a slope's whole numbers and remainders stand for.
use Rattle.std.specs.Prelude.{pos, ◌+ℤ◌, ◌*ℤ◌, ◌<◌, ◌≤◌}
use Rattle.param_cursor.specs.Rising.{Rising}
use Rattle.param_cursor.specs.declared.slope.Slope.TheInside.{Inside}

abbrev pub rising_of : Inside → Rising
rising_of s = record {
  numerator = s.value *ℤ pos s.divisor +ℤ pos s.rest;
  step = s.step *ℤ pos s.divisor +ℤ pos s.step_rest;
  divisor = s.divisor;
}

-- both remainders are below the divisor
pub record IsReduced (s : Inside) : Type 0 where
  pub some : 1 ≤ s.divisor
  pub rest : s.rest < s.divisor
  pub step_rest : s.step_rest < s.divisor
