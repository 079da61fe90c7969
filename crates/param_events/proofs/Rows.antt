-- Worked values of some timelines, as the definitions compute them.
use Rattle.std.proofs.Common.{ℕ, ℤ, pos, negsuc, ◌≡◌, ◌≤◌, List, [], ◌∷◌, refl, map, arith}
use Rattle.param_events.specs.declared.events.Event.{Event}
use Rattle.param_events.specs.declared.events.Event.TheVariants.{Set, Ramp, Curve}
use Rattle.param_events.specs.Events.{put}
use Rattle.param_events.specs.Timeline.{IsTimeline}
use Rattle.param_events.specs.Values.{value_at}

abbrev values : ℤ → List Event → List ℕ → List ℤ
values base events frames = map (value_at base events) frames

-- a line from 0 to 1.0 in three frames is rounded to the nearest values
ramp_in_thirds : values (pos 0) (Set 0 (pos 0) ∷ Ramp 3 (pos 16777216) ∷ []) (0 ∷ 1 ∷ 2 ∷ 3 ∷ 4 ∷ 127 ∷ [])
    ≡ pos 0 ∷ pos 5592405 ∷ pos 11184811 ∷ pos 16777216 ∷ pos 16777216 ∷ pos 16777216 ∷ []
unfolding value_at
ramp_in_thirds = refl

-- a curve of three points over five frames, and a line from its end to 0
curve_and_ramp : values (pos 16777216) (Curve 0 5 5 (pos 0 ∷ pos 16777216 ∷ pos 8388608 ∷ []) ∷ Ramp 9 (pos 0) ∷ [])
    (0 ∷ 1 ∷ 2 ∷ 3 ∷ 4 ∷ 5 ∷ 6 ∷ 7 ∷ 8 ∷ 9 ∷ 10 ∷ [])
    ≡ pos 0 ∷ pos 6710886 ∷ pos 13421773 ∷ pos 15099494 ∷ pos 11744051 ∷ pos 8388608 ∷ pos 6291456 ∷ pos 4194304 ∷ pos 2097152 ∷ pos 0 ∷ pos 0 ∷ []
unfolding value_at
curve_and_ramp = refl

-- a line to 1.0 at frame 8 that was held at frame 3
held_ramp : values (pos 16777216) (Set 0 (pos 0) ∷ Ramp 3 (pos 6291456) ∷ []) (0 ∷ 1 ∷ 2 ∷ 3 ∷ 4 ∷ 100 ∷ [])
    ≡ pos 0 ∷ pos 2097152 ∷ pos 4194304 ∷ pos 6291456 ∷ pos 6291456 ∷ pos 6291456 ∷ []
unfolding value_at
held_ramp = refl

-- a curve over eight frames that was held at frame 3 keeps its pace, and a line goes from there to 0
held_curve_and_ramp : values (pos 16777216) (Curve 0 8 3 (pos 0 ∷ pos 16777216 ∷ pos 0 ∷ []) ∷ Ramp 5 (pos 0) ∷ []) (0 ∷ 1 ∷ 2 ∷ 3 ∷ 4 ∷ 5 ∷ 6 ∷ [])
    ≡ pos 0 ∷ pos 4194304 ∷ pos 8388608 ∷ pos 12582912 ∷ pos 6291456 ∷ pos 0 ∷ pos 0 ∷ []
unfolding value_at
held_curve_and_ramp = refl

-- and where no event follows, its value is held
held_curve : values (pos 16777216) (Curve 0 8 3 (pos 0 ∷ pos 16777216 ∷ pos 0 ∷ []) ∷ []) (2 ∷ 3 ∷ 4 ∷ 8 ∷ 100 ∷ [])
    ≡ pos 8388608 ∷ pos 12582912 ∷ pos 12582912 ∷ pos 12582912 ∷ pos 12582912 ∷ []
unfolding value_at
held_curve = refl

-- what a script reads at frame 256 of a curve over 256 frames: the value at the first frame of the quantum before
curve_at_a_quantum : value_at (pos 16777216) (Curve 0 256 256 (pos 0 ∷ pos 16777216 ∷ []) ∷ []) 128 ≡ pos 8388608
unfolding value_at
curve_at_a_quantum = refl

-- halves go up, on the way up and on the way down
halves : (value_at (pos 0) (Set 0 (pos 0) ∷ Ramp 2 (pos 1) ∷ []) 1 ≡ pos 1) × (value_at (pos 0) (Set 0 (pos 1) ∷ Ramp 2 (pos 0) ∷ []) 1 ≡ pos 1)
    × (value_at (pos 0) (Set 0 (pos 0) ∷ Ramp 2 (negsuc 0) ∷ []) 1 ≡ pos 0)
unfolding value_at
halves = (refl, refl, refl)

-- from the least to the greatest value in 2 ^ 40 frames
long_ramp : values (pos 0) (Set 0 (negsuc 2147483647) ∷ Ramp 1099511627776 (pos 2147483647) ∷ []) (0 ∷ 128 ∷ 129 ∷ 1099511627776 ∷ [])
    ≡ negsuc 2147483647 ∷ negsuc 2147483647 ∷ negsuc 2147483646 ∷ pos 2147483647 ∷ []
unfolding value_at
long_ramp = refl

-- the base is the value before the first event; of events at one time the last counts, and the first that comes after is the next
before_and_at_one_time : values (pos 7) (Set 10 (pos 1) ∷ Set 10 (pos 2) ∷ Ramp 12 (pos 4) ∷ Ramp 12 (pos 0) ∷ Set 20 (pos 5) ∷ []) (9 ∷ 10 ∷ 11 ∷ 12 ∷ 19 ∷ 20 ∷ [])
    ≡ pos 7 ∷ pos 2 ∷ pos 3 ∷ pos 0 ∷ pos 0 ∷ pos 5 ∷ []
unfolding value_at
before_and_at_one_time = refl

-- an event is put behind those of its own time
put_behind : put (Set 3 (pos 1) ∷ Ramp 5 (pos 2) ∷ Set 9 (pos 3) ∷ []) (Set 5 (pos 4)) ≡ Set 3 (pos 1) ∷ Ramp 5 (pos 2) ∷ Set 5 (pos 4) ∷ Set 9 (pos 3) ∷ []
put_behind = refl

-- a curve that was cut at frame 3 is followed from there on
cut_curve_is_followed : IsTimeline (Curve 0 8 3 (pos 0 ∷ pos 16777216 ∷ pos 0 ∷ []) ∷ Set 3 (pos 1) ∷ Ramp 5 (pos 0) ∷ [])
cut_curve_is_followed = record {
  begun = tt;
  ordered = (omega arith, record { begins = omega arith; ends = omega arith; lasts = omega arith; has_points = omega arith }, (omega arith, tt, (omega arith, tt, tt)));
}

-- and not before
cut_curve_is_whole : IsTimeline (Curve 0 8 3 (pos 0 ∷ pos 16777216 ∷ pos 0 ∷ []) ∷ Ramp 2 (pos 0) ∷ []) → ⊥
cut_curve_is_whole kept = let late : 3 ≤ 2 = kept.ordered.2.0 in omega arith
