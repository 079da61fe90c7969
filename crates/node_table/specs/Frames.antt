-- The frames that a channel has heard since its node's birth, the newest first.
use Rattle.std.specs.Prelude.{ℕ, zero, suc, ◌≡◌, ◌+◌, ℤ, pos, List, ◌∷◌, slice_index_or}

-- the item at a place, and 0 past the end
abbrev pub item : List ℤ → ℕ → ℤ
item items place = slice_index_or items place (pos 0)

-- the newest frame, and 0 before birth
abbrev pub newest : List ℤ → ℤ
newest frames = item frames 0

-- the frames heard, after so many more items of a block from a place on
abbrev pub heard : List ℤ → ℕ → ℕ → List ℤ → List ℤ
heard block start zero frames = frames
heard block start (suc n) frames = item block (start + n) ∷ heard block start n frames

-- a block is its first part and then the rest
abbrev pub BlockLaw : Type 0
BlockLaw = (block : List ℤ) (start m n : ℕ) (frames : List ℤ) → heard block start (m + n) frames ≡ heard block (start + m) n (heard block start m frames)
