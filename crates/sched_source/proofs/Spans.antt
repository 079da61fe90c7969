-- Whether a source sounds in a run of frames, by the ends of what it plays and of the run.
use Rattle.std.proofs.Common.{◌≡◌, ℕ, ◌+◌, ◌≤◌, suc, zero, max, min, nat_lt, false, Option, Some, None, List, [], ◌∷◌, refl, arith}
use Rattle.std.specs.List.{list_any, range_with_len}
use Rattle.sched_source.specs.Schedule.{Schedule, plays_in, end_frame, is_between}

never : (end : Option ℕ) (frames : List ℕ) → list_any (is_between None end) frames ≡ false
never end [] = refl
never end (frame ∷ frames) = never end frames

-- a run of one frame or more meets all frames from `low` on exactly where it ends after `low`
any_from : (low first count : ℕ) → 1 ≤ count → list_any (is_between (Some low) None) (range_with_len first count) ≡ nat_lt low (first + count)
any_from low first zero some = absurd (omega arith)
any_from low first (suc zero) some = grind arith
any_from low first (suc (suc count)) some = grind (arith, any_from low (first + 1) (suc count) (omega arith))

-- a run meets the frames from `low` on and before `high` exactly where the two overlap
any_between : (low high first count : ℕ)
    → list_any (is_between (Some low) (Some high)) (range_with_len first count) ≡ nat_lt (max first low) (min high (first + count))
any_between low high first zero = grind arith
any_between low high first (suc count) = grind (arith, any_between low high (first + 1) count)

-- a source that was not started sounds nowhere
pub plays_in_not_started : (count : ℕ) (schedule : Schedule) (first : ℕ) → schedule.start ≡ None → plays_in count schedule first ≡ false
unfolding plays_in
plays_in_not_started count schedule first none = rw none (never (end_frame schedule) (range_with_len first count))

-- one without an end sounds from its start on
pub plays_in_without_end : (count : ℕ) (schedule : Schedule) (first start : ℕ) → schedule.start ≡ Some start → end_frame schedule ≡ None
    → 1 ≤ count → plays_in count schedule first ≡ nat_lt start (first + count)
unfolding plays_in
plays_in_without_end count schedule first start begins ends some = rw ends (rw begins (any_from start first count some))

-- one with an end sounds from its start until its end
pub plays_in_until_end : (count : ℕ) (schedule : Schedule) (first start end : ℕ) → schedule.start ≡ Some start → end_frame schedule ≡ Some end
    → plays_in count schedule first ≡ nat_lt (max first start) (min end (first + count))
unfolding plays_in
plays_in_until_end count schedule first start end begins ends = rw ends (rw begins (any_between start end first count))
