-- Worked schedules of constant sources, as the definitions compute them.
use Rattle.std.proofs.Common.{ℕ, pos, negsuc, ◌≡◌, Bool, true, false, List, [], ◌∷◌, Some, None, refl, map}
use Rattle.wa_base.specs.declared.exceptions.Exc.TheVariants.{InvalidState, Range}
use Rattle.sched_source.specs.Schedule.{Schedule, constant, end_frame, plays_at, plays_in, start_refusal, stop_refusal, started, stopped}

-- one that is started at a time, from the frame `when` on
abbrev begun : ℕ → ℕ → Schedule
begun now when = started constant now (pos when) (pos 0) None 0

abbrev sounding : Schedule → List ℕ → List Bool
sounding schedule frames = map (plays_at schedule) frames

-- whether it sounds in the quantum from each of these frames on
abbrev sounding_in : Schedule → List ℕ → List Bool
sounding_in schedule frames = map (plays_in 128 schedule) frames

-- from frame 0 until frame 129: frame 128 is the last that sounds
abbrev until_129 : Schedule
until_129 = stopped (begun 0 0) 0 (pos 129)

until_129_frames : sounding until_129 (0 ∷ 1 ∷ 128 ∷ 129 ∷ 130 ∷ []) ≡ true ∷ true ∷ true ∷ false ∷ false ∷ []
until_129_frames = refl

until_129_quanta : sounding_in until_129 (0 ∷ 128 ∷ 256 ∷ []) ≡ true ∷ true ∷ false ∷ []
unfolding plays_in
until_129_quanta = refl

-- a source that is not stopped sounds in each quantum that reaches its start
from_383 : sounding_in (begun 0 383) (0 ∷ 128 ∷ 255 ∷ 256 ∷ 384 ∷ 1280000 ∷ []) ≡ false ∷ false ∷ false ∷ true ∷ true ∷ true ∷ []
unfolding plays_in
from_383 = refl

-- a stop before the start: the source ends where it starts, and sounds nowhere
abbrev stopped_early : Schedule
stopped_early = stopped (begun 0 300) 0 (pos 100)

stopped_early_ends : end_frame stopped_early ≡ Some 300
stopped_early_ends = refl

stopped_early_is_silent : sounding_in stopped_early (0 ∷ 128 ∷ 256 ∷ 384 ∷ []) ≡ false ∷ false ∷ false ∷ false ∷ []
unfolding plays_in
stopped_early_is_silent = refl

-- an end in the past is now
stopped_in_the_past : end_frame (stopped (begun 0 0) 256 (pos 10)) ≡ Some 256
stopped_in_the_past = refl

-- and so is a start; the last stop counts
started_in_the_past : stopped (stopped (begun 256 10) 256 (pos 700)) 256 (pos 500) ≡ record { start = Some 256; stop = Some 500; ended = false; content = None }
started_in_the_past = refl

-- after the source has ended a stop is accepted and changes nothing
abbrev has_ended : Schedule
has_ended = record until_129 { ended = true }

has_ended_stays : (stop_refusal has_ended (pos 700) ≡ None) × (stopped has_ended 256 (pos 700) ≡ has_ended)
has_ended_stays = (refl, refl)

-- a source that was started, or was not, is refused so before its time is looked at
refusals : (start_refusal constant (negsuc 0) (pos 0) None ≡ Some Range) × (start_refusal until_129 (negsuc 0) (pos 0) None ≡ Some InvalidState)
    × (stop_refusal constant (negsuc 0) ≡ Some InvalidState) × (stop_refusal until_129 (negsuc 0) ≡ Some Range)
refusals = (refl, refl, refl, refl)
