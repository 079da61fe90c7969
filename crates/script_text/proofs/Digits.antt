-- The last digits of a number, one after another.
use Rattle.std.proofs.Common.{◌≡◌, ◌+◌, ◌-◌, ◌/◌, ◌%◌, ℕ, zero, suc, [], ◌∷◌, ◌++◌, refl, arith}
use Rattle.script_text.specs.Seconds.{last_digits}

pub no_digits : (k n : ℕ) → k ≡ 0 → last_digits k n ≡ []
unfolding last_digits
no_digits zero n is = refl
no_digits (suc k) n is = absurd (omega arith)

pub more_digits : (k n : ℕ) → (k ≡ 0 → ⊥) → last_digits k n ≡ last_digits (k - 1) (n / 10) ++ (48 + n % 10) ∷ []
unfolding last_digits
more_digits zero n some = absurd (some refl)
more_digits (suc k) n some =
    let less : suc k - 1 ≡ k = omega arith in
    rw less refl
