-- Blocks of samples, by the place of each sample.
use Rattle.std.specs.Prelude.{ℕ, ◌≤◌, ℤ, pos, unsigned_abs, List, slice_index_or}

-- the sample at place k
abbrev pub at : List ℤ → ℕ → ℤ
at samples k = slice_index_or samples k (pos 0)

-- at most so far from 0
abbrev pub IsWithin : ℕ → ℤ → Type 0
IsWithin bound x = unsigned_abs x ≤ bound
