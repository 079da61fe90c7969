-- The equation of a wave shaper (WaveShaperNode).
use Rattle.std.specs.Prelude.{ℕ, ◌+◌, ◌-◌, ◌*◌, ◌/◌, ◌^◌, ◌≤◌, nat_le, nat_lt, ℤ, pos, negsuc, ◌+ℤ◌, ◌-ℤ◌, ◌*ℤ◌, Bool, if◌then◌else◌, List, length, Option, Some, None}
use Rattle.wa_base.specs.Numbers.{rnd}
use Rattle.wa_base.specs.declared.exceptions.Exc.{Exc}
use Rattle.wa_base.specs.declared.exceptions.Exc.TheVariants.{InvalidState}
use Rattle.node_table.specs.Frames.{item, newest}

-- the value after n of so many parts of the way from one value to another, rounded once
abbrev pub between : ℤ → ℤ → ℕ → ℕ → ℤ
between from to n parts = from +ℤ rnd ((to -ℤ from) *ℤ pos n) (pos parts)

-- the value of a curve on the way from a point to the next one, where p counts parts of 2^-25 of that way from the curve's first point on
abbrev pub on_way : List ℤ → ℕ → ℤ
on_way curve p = let k = p / 2 ^ 25 in between (item curve k) (item curve (k + 1)) (p - k * 2 ^ 25) (2 ^ 25)

-- the value of a curve at X: its first point stands at 0 and its last at 2^25, and it is level before and behind
abbrev pub curve_at : List ℤ → ℤ → ℤ
curve_at curve (negsuc n) = item curve 0
curve_at curve (pos x) =
    if nat_le x 0 then item curve 0
    else if nat_le (2 ^ 25) x then item curve (length curve - 1)
    else on_way curve ((length curve - 1) * x)

-- the value of a curve at an input: the points are spread evenly from -1.0 to 1.0
abbrev pub shaped : List ℤ → ℤ → ℤ
shaped curve x = curve_at curve (x +ℤ pos (2 ^ 24))

-- the output of a shaper by the curve in force, after the frames heard: the newest frame alone counts, and without a curve it passes through
abbrev pub shaper_value : Option (List ℤ) → List ℤ → ℤ
shaper_value None frames = newest frames
shaper_value (Some curve) frames = shaped curve (newest frames)

-- a curve has at least two points; no curve is fine too
abbrev pub IsCurve : Option (List ℤ) → Type 0
IsCurve None = Unit {0}
IsCurve (Some curve) = 2 ≤ length curve

-- why a curve, or none, is refused where one was set before or not: it has fewer than two points, or it would be the second one
abbrev pub curve_refusal : Option (List ℤ) → Bool → Option Exc
curve_refusal None was_set = None
curve_refusal (Some curve) was_set = if nat_lt (length curve) 2 then Some InvalidState else if was_set then Some InvalidState else None
