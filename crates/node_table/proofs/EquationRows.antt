-- Worked filters, curves and refusals, as the definitions compute them.
use Rattle.std.proofs.Common.{ℕ, ℤ, pos, negsuc, ◌≡◌, ◌++◌, List, [], ◌∷◌, refl, map, replicate, true, false, Some, None}
use Rattle.wa_base.specs.declared.exceptions.Exc.TheVariants.{NotSupported, InvalidState}
use Rattle.node_table.specs.Curves.{shaped, shaper_value, curve_refusal}
use Rattle.node_table.specs.Filters.{filtered, filter_value, filter_refusal}

abbrev zeros : ℕ → List ℤ
zeros n = replicate n (pos 0)

-- so many frames of silence after an impulse of 1.0
abbrev impulse : ℕ → List ℤ
impulse n = zeros n ++ pos 16777216 ∷ []

-- a one-pole filter with both coefficients negated halves an impulse from frame to frame, until 1 stays
negated_one_pole : filtered (negsuc 16777215 ∷ []) (negsuc 16777215 ∷ pos 8388608 ∷ []) (impulse 27)
    ≡ pos 1 ∷ pos 1 ∷ pos 1 ∷ pos 1 ∷ pos 2 ∷ pos 4 ∷ pos 8 ∷ pos 16 ∷ pos 32 ∷ pos 64 ∷ pos 128 ∷ pos 256 ∷ pos 512 ∷ pos 1024 ∷ pos 2048
    ∷ pos 4096 ∷ pos 8192 ∷ pos 16384 ∷ pos 32768 ∷ pos 65536 ∷ pos 131072 ∷ pos 262144 ∷ pos 524288 ∷ pos 1048576 ∷ pos 2097152
    ∷ pos 4194304 ∷ pos 8388608 ∷ pos 16777216 ∷ []
negated_one_pole = refl

-- and it is still 1 in the last of 128 frames
still_there : filter_value (negsuc 16777215 ∷ []) (negsuc 16777215 ∷ pos 8388608 ∷ []) (impulse 127) ≡ pos 1
still_there = refl

-- what is saturated is fed back: the output swings between the ends of its range
swings : filtered (pos 2147483647 ∷ []) (pos 1 ∷ pos 3 ∷ []) (pos 0 ∷ pos 0 ∷ pos 0 ∷ pos 16777216 ∷ [])
    ≡ negsuc 2147483647 ∷ pos 2147483647 ∷ negsuc 2147483647 ∷ pos 2147483647 ∷ []
swings = refl

-- the least coefficient over a negative feedback[0]
least_coefficient : filtered (negsuc 2147483647 ∷ []) (negsuc 0 ∷ []) (pos 0 ∷ negsuc 0 ∷ pos 1 ∷ []) ≡ pos 0 ∷ negsuc 2147483647 ∷ pos 2147483647 ∷ []
least_coefficient = refl

-- halves are rounded up, whatever the signs
halves : filtered (pos 1 ∷ []) (pos 2 ∷ []) (negsuc 2 ∷ negsuc 0 ∷ pos 3 ∷ pos 1 ∷ []) ≡ negsuc 0 ∷ pos 0 ∷ pos 2 ∷ pos 1 ∷ []
halves = refl

-- a constant of 0.5 is three quarters of the way along a curve
three_points : shaped (negsuc 8388607 ∷ pos 0 ∷ pos 8388608 ∷ []) (pos 8388608) ≡ pos 4194304
three_points = refl

-- a curve is level before -1.0 and from 1.0 on
level_ends : map (shaped (pos 5 ∷ pos 100 ∷ pos 7 ∷ [])) (negsuc 16777216 ∷ negsuc 16777215 ∷ negsuc 16777214 ∷ pos 0 ∷ pos 16777215 ∷ pos 16777216 ∷ pos 16777217 ∷ [])
    ≡ pos 5 ∷ pos 5 ∷ pos 5 ∷ pos 100 ∷ pos 7 ∷ pos 7 ∷ pos 7 ∷ []
level_ends = refl

-- the newest frame alone counts, and it passes through where there is no curve
newest_passes : shaper_value None (pos 7 ∷ pos 9 ∷ []) ≡ pos 7
newest_passes = refl

-- a curve of fewer than two points is refused even where none was set, and a second one always; none is never refused
curves : map (λ (c : List ℤ). curve_refusal (Some c) false) ([] ∷ (pos 1 ∷ []) ∷ (pos 1 ∷ pos 2 ∷ []) ∷ []) ≡ Some InvalidState ∷ Some InvalidState ∷ None ∷ []
curves = refl

second_curve : curve_refusal (Some (pos 1 ∷ pos 2 ∷ [])) true ≡ Some InvalidState
second_curve = refl

no_curve : curve_refusal None true ≡ None
no_curve = refl

-- no coefficient, and 21, come before all else
filter_counts : map (λ n. filter_refusal (zeros n) (pos 1 ∷ [])) (0 ∷ 1 ∷ 20 ∷ 21 ∷ []) ≡ Some (NotSupported None) ∷ Some InvalidState ∷ Some InvalidState ∷ Some (NotSupported None) ∷ []
filter_counts = refl

filter_feedbacks : map (filter_refusal (pos 0 ∷ negsuc 0 ∷ [])) ([] ∷ (pos 0 ∷ pos 1 ∷ []) ∷ (negsuc 0 ∷ []) ∷ replicate 21 (pos 1) ∷ [])
    ≡ Some (NotSupported None) ∷ Some InvalidState ∷ None ∷ Some (NotSupported None) ∷ []
filter_feedbacks = refl
