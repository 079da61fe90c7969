-- A reader or a writer of the system beside the count of its faults.
use Rattle.std.specs.Prelude.{ℕ}

-- the reader or writer, and how many calls failed, which stops at the last value of a counter of 64 bits
pub record Counted (R : Type 0) : Type 0 where
  pub inner : R
  pub faults : ℕ
