-- The text of a time.
use Rattle.std.specs.Prelude.{ℕ, zero, suc, ◌+◌, ◌/◌, ◌%◌, List, [], ◌∷◌, ◌++◌, ℤ, pos, ◌*ℤ◌, int_lt, nat_abs, decimal}
use Rattle.std.specs.Fmt.{sign_text}
use Rattle.wa_base.specs.Numbers.{rnd}

-- the whole number of billionths of a second that is nearest to a time in frames, at so many frames a second; a half goes up
abbrev pub billionths : ℕ → ℤ → ℤ
billionths rate frames = rnd (frames *ℤ pos 1000000000) (pos rate)

-- the last k decimal digits of a number, zeros included
unfoldable pub last_digits : ℕ → ℕ → List ℕ
last_digits zero n = []
last_digits (suc k) n = last_digits k (n / 10) ++ (48 + n % 10) ∷ []

-- so many billionths of a second: `-` before a negative number, the whole seconds, a point and nine digits
abbrev pub seconds_text : ℤ → List ℕ
seconds_text z = sign_text (int_lt z (pos 0)) ++ decimal (nat_abs z / 1000000000) ++ 46 ∷ last_digits 9 (nat_abs z % 1000000000)

-- a time in frames, at so many frames a second
unfoldable pub time_text : ℕ → ℤ → List ℕ
time_text rate frames = seconds_text (billionths rate frames)
