-- A value that is added to each of several sums.
use Rattle.std.specs.Prelude.{ℕ, ◌<◌, ◌≡◌, ◌^◌, ℤ, ◌+ℤ◌, List, length}
use Rattle.lane_kern.specs.Blocks.{at, IsWithin}

-- each sum grows by its value, and no value is further from 0 than 2 ^ 34
pub record Adds (values : ℕ → ℤ) (old new : List ℤ) : Type 0 where
  pub sums : (k : ℕ) → k < length old → at new k ≡ at old k +ℤ values k
  pub small : (k : ℕ) → k < length old → IsWithin (2 ^ 34) (values k)
