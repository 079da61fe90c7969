-- The moment of a call, which is not before now.
use Rattle.std.proofs.Common.{ℕ, ℤ, pos, negsuc, ◌≡◌, ◌≤◌, max, Bool, true, false, refl, cond, arith, rules}
use Rattle.std.specs.Prelude.{unsigned_abs, nat_lt}
use Rattle.std.specs.Int.{is_negative}
use Rattle.std.proofs.lemmas.Bool.Decides.{nat_tests}
use Rattle.param_events.specs.Edits.{moment}

greater : (now at : ℕ) → unsigned_abs (cond (nat_lt now at) (pos at) (pos now)) ≡ max at now
greater now at = by_test (nat_lt now at) refl
  where
    by_test : (b : Bool) → nat_lt now at ≡ b → unsigned_abs (cond b (pos at) (pos now)) ≡ max at now
    by_test true h = grind (arith, nat_tests)
    by_test false h = grind (arith, nat_tests)

-- a time from 0 on that is before now stands for now
pub moment_is : (now : ℕ) (time : ℤ) → is_negative time ≡ false → moment now time ≡ max (unsigned_abs time) now
moment_is now (pos at) h = greater now at
moment_is now (negsuc before) h = absurd (search rules)

pub moment_late : (now : ℕ) (time : ℤ) → now ≤ moment now time
moment_late now (pos at) = let e = greater now at in omega (arith, e)
moment_late now (negsuc before) = omega arith
