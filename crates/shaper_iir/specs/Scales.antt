-- How far sums in 64 bits can go, and what they are divided by.
use Rattle.std.specs.Prelude.{ℕ, ◌≡◌, ◌+◌, ◌*◌, ◌^◌, ◌≤◌, max, if◌then◌else◌, ℤ, pos, neg_ℤ, List, [], ◌∷◌, drop, Some, unsigned_abs}
use Rattle.std.specs.List.{sum_by}
use Rattle.node_table.specs.Frames.{item}
use Rattle.shaper_iir.specs.declared.histories.History.{History}
use Rattle.shaper_iir.specs.declared.scales.Scale.{Scale}

-- the greatest that a sum with these coefficients can be for items of at most 1
abbrev pub weight : List ℤ → ℕ
weight coefficients = sum_by unsigned_abs coefficients

-- the greatest absolute value
abbrev pub greatest : List ℤ → ℕ
greatest [] = 0
greatest (x ∷ xs) = max (unsigned_abs x) (greatest xs)

-- a number with the sign of the divisor taken over
abbrev pub upright : Scale → ℤ → ℤ
upright scale x = if scale.is_negative then neg_ℤ x else x

-- what a scale says of its divisor
pub record IsDivisor (scale : Scale) : Type 0 where
  pub low : 1 ≤ scale.divisor
  pub high : scale.divisor ≤ 2 ^ 31
  pub power : (bits : ℕ) → scale.bits ≡ Some bits → (bits ≤ 31) × (scale.divisor ≡ 2 ^ bits)

-- the scale of a filter's sums
pub record IsScale (scale : Scale) (forward back : List ℤ) : Type 0 where
  pub sound : IsDivisor scale
  pub divisor : item back 0 ≡ upright scale (pos scale.divisor)
  pub room : (weight forward + weight (drop 1 back)) * scale.reach ≤ 2 ^ 61

-- inputs and outputs are within reach
pub record IsSmall (reach : ℕ) (inputs outputs : List ℤ) : Type 0 where
  pub inputs_small : greatest inputs ≤ reach
  pub outputs_small : greatest outputs ≤ reach

abbrev pub IsQuiet : ℕ → History → Type 0
IsQuiet reach history = IsSmall reach history.inputs history.outputs
