-- Worked schedules of buffer sources, as the definitions compute them.
use Rattle.std.proofs.Common.{ℕ, ℤ, pos, negsuc, ◌≡◌, true, false, List, [], ◌∷◌, Option, Some, None, refl, map}
use Rattle.wa_base.specs.declared.exceptions.Exc.TheVariants.{NotSupported, Range}
use Rattle.wa_base.specs.declared.features.Feature.TheVariants.{LoopChange}
use Rattle.sched_source.specs.declared.content.Loop.{Loop}
use Rattle.sched_source.specs.Playback.{has_points, loop_start, loop_end, position}
use Rattle.sched_source.specs.Schedule.{Schedule, buffer, constant, end_frame, played, start_refusal, started, stopped, loop_refusal, with_loop}

-- a loop that is off, and one that is on, from `loopStart` to `loopEnd`
abbrev no_loop : Loop
no_loop = record { on = false; first = pos 0; end = pos 0 }

abbrev loop : ℕ → ℕ → Loop
loop first end = record { on = true; first = pos first; end = pos end }

-- one that is started at frame 0, over a buffer of so many frames
abbrev begun : ℕ → Loop → ℕ → Option ℤ → ℕ → Schedule
begun rate points offset duration length = started (buffer rate points) 0 (pos 0) (pos offset) duration length

-- buffers of three frames and of five
abbrev three : List ℤ
three = pos 2 ∷ pos 4 ∷ pos 6 ∷ []

abbrev five : List ℤ
five = pos 2 ∷ pos 4 ∷ pos 6 ∷ pos 8 ∷ pos 10 ∷ []

abbrev heard : Schedule → List ℤ → List ℕ → List ℤ
heard schedule channel frames = map (played schedule channel) frames

-- a loop that begins past the buffer is the whole buffer
loops_whole : heard (begun 1 (loop 3 9) 0 None 3) three (0 ∷ 1 ∷ 2 ∷ 3 ∷ 4 ∷ 5 ∷ 300 ∷ []) ≡ pos 2 ∷ pos 4 ∷ pos 6 ∷ pos 2 ∷ pos 4 ∷ pos 6 ∷ pos 2 ∷ []
unfolding has_points loop_start loop_end position
loops_whole = refl

-- a loop of one frame, entered from past its end
loops_one_frame : heard (begun 1 (loop 1 2) 5 None 3) three (0 ∷ 1 ∷ 2 ∷ 1000 ∷ []) ≡ pos 4 ∷ pos 4 ∷ pos 4 ∷ pos 4 ∷ []
unfolding has_points loop_start loop_end position
loops_one_frame = refl

-- the loop ends at `loopEnd`, and not at the buffer's end; what lies before it is played once
loops_within : heard (begun 1 (loop 1 3) 0 None 5) five (0 ∷ 1 ∷ 2 ∷ 3 ∷ 4 ∷ 5 ∷ []) ≡ pos 2 ∷ pos 4 ∷ pos 6 ∷ pos 4 ∷ pos 6 ∷ pos 4 ∷ []
unfolding has_points loop_start loop_end position
loops_within = refl

-- a rate of 2 around a loop of three frames
loops_at_two : heard (begun 2 (loop 1 4) 0 None 5) five (0 ∷ 1 ∷ 2 ∷ 3 ∷ 4 ∷ 5 ∷ []) ≡ pos 2 ∷ pos 6 ∷ pos 4 ∷ pos 8 ∷ pos 6 ∷ pos 4 ∷ []
unfolding has_points loop_start loop_end position
loops_at_two = refl

-- a rate above the loop's length
loops_at_five : heard (begun 5 (loop 1 3) 0 None 5) five (0 ∷ 1 ∷ 2 ∷ 3 ∷ 4 ∷ []) ≡ pos 2 ∷ pos 4 ∷ pos 6 ∷ pos 4 ∷ pos 6 ∷ []
unfolding has_points loop_start loop_end position
loops_at_five = refl

loops_forever : end_frame (begun 5 (loop 1 3) 0 None 5) ≡ None
loops_forever = refl

-- without a loop a rate of 2 plays every other frame; the last may be cut short
plays_at_two : heard (begun 2 no_loop 0 None 5) five (0 ∷ 1 ∷ 2 ∷ 3 ∷ []) ≡ pos 2 ∷ pos 6 ∷ pos 10 ∷ pos 0 ∷ []
unfolding position
plays_at_two = refl

ends_at_two : (end_frame (begun 2 no_loop 0 None 5) ≡ Some 3) × (end_frame (begun 2 no_loop 0 None 256) ≡ Some 128)
ends_at_two = (refl, refl)

-- an offset past the end, a duration of 0, and no buffer: the source ends where it starts
ends_at_once : (end_frame (begun 1 no_loop 9 None 3) ≡ Some 0) × (end_frame (begun 1 no_loop 0 (Some (pos 0)) 3) ≡ Some 0) × (end_frame (begun 1 (loop 0 2) 0 (Some (pos 0)) 3) ≡ Some 0) × (end_frame (begun 1 (loop 0 2) 0 None 0) ≡ Some 0)
unfolding has_points loop_end
ends_at_once = (refl, refl, refl, refl)

nothing_is_heard : heard (begun 1 no_loop 9 None 3) three (0 ∷ 1 ∷ []) ≡ pos 0 ∷ pos 0 ∷ []
unfolding position
nothing_is_heard = refl

-- a duration counts frames of the buffer, through several rounds of the loop too
lasts_several_rounds : heard (begun 1 (loop 0 2) 0 (Some (pos 5)) 3) three (0 ∷ 1 ∷ 2 ∷ 3 ∷ 4 ∷ 5 ∷ []) ≡ pos 2 ∷ pos 4 ∷ pos 2 ∷ pos 4 ∷ pos 2 ∷ pos 0 ∷ []
unfolding has_points loop_start loop_end position
lasts_several_rounds = refl

ends_after_duration : (end_frame (begun 1 (loop 0 2) 0 (Some (pos 5)) 3) ≡ Some 5) × (end_frame (begun 2 (loop 0 2) 0 (Some (pos 5)) 3) ≡ Some 3) × (end_frame (begun 1 no_loop 1 (Some (pos 5)) 3) ≡ Some 2)
ends_after_duration = (refl, refl, refl)

-- a stop before the start, one before the content ends, and one after
abbrev late : ℤ → Schedule
late when = stopped (started (buffer 1 no_loop) 0 (pos 300) (pos 0) None 3) 0 when

stops : (end_frame (late (pos 100)) ≡ Some 300) × (end_frame (late (pos 302)) ≡ Some 302) × (end_frame (late (pos 400)) ≡ Some 303)
stops = (refl, refl, refl)

stopped_early_is_silent : heard (late (pos 100)) three (100 ∷ 299 ∷ 300 ∷ 301 ∷ []) ≡ pos 0 ∷ pos 0 ∷ pos 0 ∷ pos 0 ∷ []
unfolding position
stopped_early_is_silent = refl

-- a buffer of one frame, once and around
one_frame : (heard (begun 1 no_loop 0 None 1) (pos 7 ∷ []) (0 ∷ 1 ∷ []) ≡ pos 7 ∷ pos 0 ∷ []) × (heard (begun 3 (loop 0 0) 0 None 1) (pos 7 ∷ []) (0 ∷ 1 ∷ 2 ∷ []) ≡ pos 7 ∷ pos 7 ∷ pos 7 ∷ [])
unfolding has_points loop_start loop_end position
one_frame = (refl, refl)

-- a negative offset or duration is refused for a buffer source alone, and its loop stays once it was started
refusals : (start_refusal (buffer 1 no_loop) (pos 0) (negsuc 0) None ≡ Some Range) × (start_refusal (buffer 1 no_loop) (pos 0) (pos 0) (Some (negsuc 0)) ≡ Some Range)
    × (start_refusal (buffer 1 no_loop) (pos 0) (pos 0) None ≡ None) × (start_refusal constant (pos 0) (negsuc 0) (Some (negsuc 0)) ≡ None)
    × (loop_refusal (buffer 1 no_loop) ≡ None) × (loop_refusal (begun 1 no_loop 0 None 3) ≡ Some (NotSupported (Some LoopChange)))
refusals = (refl, refl, refl, refl, refl, refl)

changed_loop : with_loop (loop 1 2) (buffer 1 no_loop) ≡ buffer 1 (loop 1 2)
changed_loop = refl
