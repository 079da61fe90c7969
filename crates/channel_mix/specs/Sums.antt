-- What is added up for an input or a parameter, before it is saturated.
use Rattle.std.specs.Prelude.{ℕ, ℤ, pos, ◌+ℤ◌, ◌*◌, ◌^◌, ◌≡◌, ◌≤◌, List, [], take, length, slice_index_or, Bool, true, false, All}
use Rattle.wa_base.specs.Contexts.{IsQuantumSize}
use Rattle.lane_kern.specs.Blocks.{IsWithin}
use Rattle.mix_rules.specs.Blocks.{sample}
use Rattle.channel_mix.specs.declared.four.Four.{Four}

-- What contracts see of sums: their number of channels, the frames of a quantum, how often something was added, the sum of what is the same at all frames, and the sum of the rest, where there is any.
pub record SumsView : Type 0 where
  pub count : ℕ
  pub frames : ℕ
  pub added : ℕ
  pub held : List ℤ
  pub moving : List ℤ

-- the sum of channel c at frame m
abbrev pub sum_at : SumsView → ℕ → ℕ → ℤ
sum_at s c m = slice_index_or s.held c (pos 0) +ℤ sample s.frames s.moving c m

abbrev pub moving_sums : ℕ → Bool → ℕ → List ℤ → List ℤ
moving_sums q true count sums = take (count * q) sums
moving_sums q false count sums = []

-- what holds of all sums
pub record AreSums (number q adds : ℕ) (moves : Bool) (held moving : List ℤ) : Type 0 where
  pub size : IsQuantumSize q
  pub low : 1 ≤ number
  pub high : number ≤ 32
  pub few : adds ≤ 8192
  pub held_length : length held ≡ 32
  pub moving_length : length moving ≡ 32 * q
  pub held_small : All (IsWithin (adds * 2 ^ 34)) (take number held)
  pub moving_small : All (IsWithin (adds * 2 ^ 34)) (moving_sums q moves number moving)

-- ---- four at a time

-- each has so many samples
pub record AreLong (n : ℕ) (four : Four) : Type 0 where
  pub first : length four.first.now ≡ n
  pub second : length four.second.now ≡ n
  pub third : length four.third.now ≡ n
  pub fourth : length four.fourth.now ≡ n

-- their sum at a place
abbrev pub four_at : Four → ℕ → ℤ
four_at four k = (slice_index_or four.first.now k (pos 0) +ℤ slice_index_or four.second.now k (pos 0)) +ℤ (slice_index_or four.third.now k (pos 0) +ℤ slice_index_or four.fourth.now k (pos 0))
