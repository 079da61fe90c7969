-- How many events a quantum has.
use Rattle.std.proofs.Common.{ℕ, ◌≡◌, ◌≤◌, ◌<◌, length, List, [], ◌∷◌, Bool, true, false, cond, refl, arith}
use Rattle.std.specs.Prelude.{◌&&◌, nat_le, nat_lt}
use Rattle.std.proofs.lemmas.Bool.Decides.{nat_tests}
use Rattle.param_events.specs.declared.events.Event.{Event}
use Rattle.param_events.specs.Events.{time_of}
use Rattle.param_cursor.specs.Cursors.{within}

-- in more frames there are no fewer
pub within_more : (from end end' : ℕ) (events : List Event) → end ≤ end' → length (within from end events) ≤ length (within from end' events)
within_more from end end' [] l = omega arith
within_more from end end' (e ∷ events) l = by_tests (nat_le from (time_of e)) (nat_lt (time_of e) end) (nat_lt (time_of e) end') refl refl (within_more from end end' events l)
  where
    by_tests : (a b c : Bool) → nat_lt (time_of e) end ≡ b → nat_lt (time_of e) end' ≡ c → length (within from end events) ≤ length (within from end' events)
        → length (cond (a && b) (e ∷ within from end events) (within from end events)) ≤ length (cond (a && c) (e ∷ within from end' events) (within from end' events))
    by_tests false b c s t below = below
    by_tests true false false s t below = below
    by_tests true false true s t below = omega arith
    by_tests true true true s t below = omega arith
    by_tests true true false s t below = absurd (let n : time_of e < end = grind (arith, nat_tests) in let m : end' ≤ time_of e = grind (arith, nat_tests) in omega arith)
