-- Blocks of samples, which hold channel after channel, each of equally many frames.
use Rattle.std.specs.Prelude.{ℕ, ◌+◌, ◌*◌, ℤ, pos, List, slice_index_or}

-- channel c at frame k
abbrev pub sample : ℕ → List ℤ → ℕ → ℕ → ℤ
sample frames block c k = slice_index_or block (c * frames + k) (pos 0)

-- frame k, as a function from channel to value
abbrev pub frame_at : ℕ → List ℤ → ℕ → ℕ → ℤ
frame_at frames block k = λ c. sample frames block c k
