-- Values of a slope that stand side by side.
use Rattle.std.specs.Prelude.{ℕ, ◌≡◌, ◌≤◌, ◌<◌, ◌*◌, ◌+◌, ◌^◌, ℤ, pos, ◌+ℤ◌, ◌*ℤ◌, ◌≤ℤ◌, ◌<ℤ◌, List, slice_index_or, unsigned_abs}
use Rattle.std.specs.Int.{w32, int_wrap}
use Rattle.param_cursor.specs.Rising.{Rising}
use Rattle.param_cursor.specs.declared.lanes.Lanes.{Lanes}

-- the divisor and each step fit 32 bits
pub record IsNarrow (rising : Rising) : Type 0 where
  pub divisor : rising.divisor ≤ 2 ^ 30
  pub step : unsigned_abs rising.step ≤ (2 ^ 26 + 1) * rising.divisor

-- a remainder lies below the divisor
pub record IsRest (rest divisor : ℤ) : Type 0 where
  pub least : pos 0 ≤ℤ rest
  pub below : rest <ℤ divisor

-- the lower 32 bits of a quotient, and its remainder
pub record IsPart (value rest numerator : ℤ) (divisor : ℕ) : Type 0 where
  pub quotient : ℤ
  pub remainder : ℕ
  pub is : quotient *ℤ pos divisor +ℤ pos remainder ≡ numerator
  pub below : remainder < divisor
  pub bits : value ≡ int_wrap w32 quotient
  pub left : rest ≡ pos remainder

-- those of the first so many frames, where the numerator starts at a number and rises by a step
abbrev pub AreParts : List ℤ → List ℤ → ℤ → ℤ → ℕ → ℕ → Type 0
AreParts values rests start step divisor n = (i : ℕ) → i < n → IsPart (slice_index_or values i (pos 0)) (slice_index_or rests i (pos 0)) (start +ℤ step *ℤ pos i) divisor

-- those of the frames that are drawn at once, and how far all of them lead
pub record AreLanes (lanes : Lanes) (start step : ℤ) (divisor : ℕ) : Type 0 where
  pub small : divisor ≤ 2 ^ 30
  pub same : lanes.divisor ≡ pos divisor
  pub each : AreParts lanes.values lanes.rests start step divisor 8
  pub all : IsPart lanes.whole lanes.part (step *ℤ pos 8) divisor
