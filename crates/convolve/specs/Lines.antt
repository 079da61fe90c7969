-- What a convolver keeps of a channel: its newest frames, the newest of all first.
use Rattle.std.specs.Prelude.{ℕ, ◌≡◌, ◌<◌, ℤ, pos, List, ◌∷◌, length, take, replicate, slice_index_or}
use Rattle.node_table.specs.Frames.{item, heard}

-- these are the newest frames of all that were heard, where one before birth is 0
abbrev pub Recalls : (kept frames : List ℤ) → Type 0
Recalls kept frames = (i : ℕ) → i < length kept → item kept i ≡ item frames i

-- one more frame in front of the newest ones; the oldest one is dropped
abbrev pub in_front : ℤ → List ℤ → List ℤ
in_front x kept = take (length kept) (x ∷ kept)

-- so many frames that are 0
abbrev pub silence : ℕ → List ℤ
silence n = replicate n (pos 0)

-- so many of the newest frames are 0
abbrev pub IsQuiet : ℕ → List ℤ → Type 0
IsQuiet n kept = (i : ℕ) → i < n → item kept i ≡ pos 0

-- what is kept after so many more items of a block, from a place on
pub record HasHeard (old new block : List ℤ) (start n : ℕ) : Type 0 where
  pub long : length new ≡ length old
  pub recalls : (frames : List ℤ) → Recalls old frames → Recalls new (heard block start n frames)

-- of each channel so many frames are kept
abbrev pub AreLong : List (List ℤ) → ℕ → Type 0
AreLong lines n = (c : ℕ) (other : List ℤ) → c < length lines → length (slice_index_or lines c other) ≡ n
