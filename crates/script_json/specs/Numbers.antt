-- The numbers that tell a node.
use Rattle.std.specs.Prelude.{ℕ, ℤ, List}

-- what a field of a creation holds: a value in units of 2^-24, a count, or several such values
pub data Number : Type 0 where
  fix : ℤ → Number
  count : ℕ → Number
  fixes : List ℤ → Number
