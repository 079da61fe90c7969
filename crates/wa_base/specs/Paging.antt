-- Samples of which some were written over, in pages.
use Rattle.std.specs.Prelude.{ℕ, ◌≡◌, ◌<◌, ◌≤◌, ◌+◌, ◌*◌, ◌/◌, ◌%◌, ◌⊎◌, ℤ, pos, List, [], ◌∷◌, length, slice_index_or, map, Option, Some, None, IfSome}
use Rattle.std.specs.List.{range_with_len}
use Rattle.std.specs.declared.alloc.Global.{Global}
use Rattle.std.specs.declared.rc.Rc.{Rc}

-- what a page has at a place; an empty one leaves what is below it
abbrev pub over : List ℤ → ℕ → ℤ → ℤ
over [] place below = below
over (x ∷ xs) place below = slice_index_or (x ∷ xs) place (pos 0)

-- a sample of a list with pages of 128 over it; past the end of the list there is silence
abbrev pub value_at : List ℤ → List (List ℤ) → ℕ → ℤ
value_at list pages i = over (slice_index_or pages (i / 128) []) (i % 128) (slice_index_or list i (pos 0))

-- so many of them
abbrev pub laid_over : List ℤ → List (List ℤ) → ℕ → List ℤ
laid_over list pages count = map (value_at list pages) (range_with_len 0 count)

abbrev pub IsPage : List ℤ → Type 0
IsPage page = (page ≡ []) ⊎ (length page ≡ 128)

abbrev pub ArePages : List (List ℤ) → Type 0
ArePages pages = (i : ℕ) → IsPage (slice_index_or pages i [])

-- samples that are written over from a place on: what is below the pages stands where nothing was written
pub record IsWrittenOver (list : List ℤ) (old new : List (List ℤ)) (start : ℕ) (samples : List ℤ) : Type 0 where
  pub inside : (k : ℕ) → k < length samples → value_at list new (start + k) ≡ slice_index_or samples k (pos 0)
  pub before : (i : ℕ) → i < start → value_at list new i ≡ value_at list old i
  pub after : (i : ℕ) → start + length samples ≤ i → value_at list new i ≡ value_at list old i

-- what samples began as, where that was no silence, and what was written over
abbrev pub origin_of : Option (List ℤ) → List ℤ
origin_of None = []
origin_of (Some samples) = samples

abbrev pub pages_of : Option (Rc (List (List ℤ)) Global) → List (List ℤ)
pages_of None = []
pages_of (Some pages) = pages.value

-- What they began as has as many samples, and where something was written over there are pages for all of them.
pub record IsPaged (origin : Option (List ℤ)) (pages : Option (Rc (List (List ℤ)) Global)) (count : ℕ) : Type 0 where
  pub origin_long : IfSome origin (λ samples. length samples ≡ count)
  pub pages_long : IfSome pages (λ pages. count ≤ 128 * length pages.value)
