-- What waits to be added, four at a time.
use Rattle.std.specs.Prelude.{ℕ, ℤ, pos, ◌≡◌, ◌+ℤ◌, length, slice_index_or, ⊤}
use Rattle.quantum_blocks.specs.declared.gathering.Waiting.{Waiting}
use Rattle.quantum_blocks.specs.declared.gathering.Waiting.TheVariants as wait

-- how many wait
abbrev pub count_of : Waiting → ℕ
count_of wait.None = 0
count_of (wait.One v) = 1
count_of (wait.Two v w) = 2
count_of (wait.Three v w x) = 3

-- each has so many samples
abbrev pub AreWaiting : ℕ → Waiting → Type 0
AreWaiting n wait.None = ⊤
AreWaiting n (wait.One v) = length v.now ≡ n
AreWaiting n (wait.Two v w) = (length v.now ≡ n) × (length w.now ≡ n)
AreWaiting n (wait.Three v w x) = (length v.now ≡ n) × (length w.now ≡ n) × (length x.now ≡ n)

-- their sum at a place
abbrev pub waiting_at : Waiting → ℕ → ℤ
waiting_at wait.None k = pos 0
waiting_at (wait.One v) k = slice_index_or v.now k (pos 0)
waiting_at (wait.Two v w) k = slice_index_or v.now k (pos 0) +ℤ slice_index_or w.now k (pos 0)
waiting_at (wait.Three v w x) k = (slice_index_or v.now k (pos 0) +ℤ slice_index_or w.now k (pos 0)) +ℤ slice_index_or x.now k (pos 0)
