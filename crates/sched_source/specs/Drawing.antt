-- Samples that are written one after another.
use Rattle.std.specs.Prelude.{ℕ, ◌+◌, ◌-◌, ◌*◌, ◌%◌, ◌<◌, ◌≤◌, ◌≡◌, min, ℤ, pos, List, slice_index_or, Option, Some, None}

abbrev pub at : List ℤ → ℕ → ℤ
at samples k = slice_index_or samples k (pos 0)

-- the samples from one index to before another are these values, and the others stay
pub record IsDrawn (old new : List ℤ) (from to : ℕ) (value : ℕ → ℤ) : Type 0 where
  pub drawn : (m : ℕ) → from ≤ m → m < to → at new m ≡ value m
  pub before : (m : ℕ) → m < from → at new m ≡ at old m
  pub after : (m : ℕ) → to ≤ m → at new m ≡ at old m

-- the position within a loop after so many moves by a jump, from a position within it
abbrev pub around : (start end p jump k : ℕ) → ℕ
around start end p jump k = start + (p - start + k * jump) % (end - start)

-- the index of a frame in so many frames from the first on; of an earlier one 0, and of a later one their number
abbrev pub index_of : (frame first count : ℕ) → ℕ
index_of frame first count = min (frame - first) count

-- the index before which they end, where they end
abbrev pub end_index : Option ℕ → (first count : ℕ) → ℕ
end_index None first count = count
end_index (Some end) first count = index_of end first count
