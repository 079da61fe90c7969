-- Delays in frames.
use Rattle.std.specs.Prelude.{ℕ, max, ℤ, pos, ◌*ℤ◌, unsigned_abs}
use Rattle.std.specs.Int.{int_max}
use Rattle.wa_base.specs.Numbers.{rnd}

-- a time in seconds of 2^-24 as whole frames at a rate; one before 0 has none
abbrev pub frames_of : ℤ → ℕ → ℕ
frames_of seconds rate = unsigned_abs (int_max (rnd (seconds *ℤ pos rate) (pos 16777216)) (pos 0))

-- How many frames a delay keeps: as many as its longest delay has, and at least those of a quantum.
abbrev pub delay_capacity : ℕ → ℤ → ℕ → ℕ
delay_capacity q longest rate = max (frames_of longest rate) q
