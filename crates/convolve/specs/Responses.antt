-- The responses that a convolver has.
use Rattle.std.specs.Prelude.{◌≤◌, ◌^◌, ℤ, List, length, All}
use Rattle.lane_kern.specs.Blocks.{IsWithin}

-- at most 16,384 samples, none further from 0 than 2.0
pub record IsResponse (response : List ℤ) : Type 0 where
  pub short : length response ≤ 16384
  pub small : All (IsWithin (2 ^ 25)) response
