-- How loud samples are.
use Rattle.std.specs.Prelude.{ℕ, max, unsigned_abs, ℤ, pos, ◌+ℤ◌, List, [], ◌∷◌}
use Rattle.transcript.specs.declared.loudness.Loudness.{Loudness}

-- the greatest absolute value
abbrev pub peak_of : List ℤ → ℕ
peak_of [] = 0
peak_of (x ∷ xs) = max (unsigned_abs x) (peak_of xs)

-- the sum of all values
abbrev pub sum_of : List ℤ → ℤ
sum_of [] = pos 0
sum_of (x ∷ xs) = x +ℤ sum_of xs

abbrev pub loudness_of : List ℤ → Loudness
loudness_of samples = record { peak = peak_of samples; sum = sum_of samples }
