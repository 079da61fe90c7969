-- When a source sounds, and how the calls on its schedule are answered.
use Rattle.std.specs.Prelude.{ℕ, ◌+◌, ◌-◌, ◌<◌, ◌^◌, max, min, nat_le, nat_lt, ℤ, pos, unsigned_abs, Bool, false, ◌&&◌, ◌||◌, if◌then◌else◌, List, slice_index_or, Option, Some, None, IfSome, is_some, is_none, option_map}
use Rattle.std.specs.List.{list_any, range_with_len}
use Rattle.std.specs.Int.{is_negative, int_max}
use Rattle.std.specs.Option.{option_map_or}
use Rattle.wa_base.specs.declared.exceptions.Exc.{Exc}
use Rattle.wa_base.specs.declared.exceptions.Exc.TheVariants.{NotSupported, InvalidState, Range}
use Rattle.wa_base.specs.declared.features.Feature.TheVariants.{LoopChange}
use Rattle.sched_source.specs.declared.content.Content.{Content}
use Rattle.sched_source.specs.declared.content.Loop.{Loop}
use Rattle.sched_source.specs.Playback.{position, length_played, unstarted, begun, looped, IsPlayable}

-- what contracts see of a schedule
pub record Schedule : Type 0 where
  -- the frame from which the source sounds, once it was started
  pub start : Option ℕ
  -- the frame at which it is to stop, where that was said
  pub stop : Option ℕ
  -- whether its event `ended` was fired
  pub ended : Bool
  -- what a buffer source plays; a constant source has none
  pub content : Option Content

-- ---- when it sounds

-- where a source that starts and stops at these frames ends: at its stop, but not before its start
abbrev pub later_end : Option ℕ → Option ℕ → Option ℕ
later_end (Some start) (Some stop) = Some (max stop start)
later_end start stop = None

-- where one that starts at a frame has played its content, if that ends
abbrev pub content_end : Option Content → Option ℕ → Option ℕ
content_end (Some content) (Some start) = option_map (λ frames. start + frames) (length_played content)
content_end content start = None

-- the first of two ends, as far as they exist
abbrev pub earliest : Option ℕ → Option ℕ → Option ℕ
earliest None other = other
earliest (Some end) None = Some end
earliest (Some end) (Some other) = Some (min end other)

-- the frame before which the source sounds for the last time: where its content ends or it is stopped; one that was not started has none
abbrev pub end_frame : Schedule → Option ℕ
end_frame schedule = earliest (content_end schedule.content schedule.start) (later_end schedule.start schedule.stop)

-- whether a frame lies at or after a start and before an end, where there is one
abbrev pub is_between : Option ℕ → Option ℕ → ℕ → Bool
is_between None end frame = false
is_between (Some start) None frame = nat_le start frame
is_between (Some start) (Some end) frame = nat_le start frame && nat_lt frame end

-- whether the source sounds at a frame
abbrev pub plays_at : Schedule → ℕ → Bool
plays_at schedule = is_between schedule.start (end_frame schedule)

-- whether it sounds at one of so many frames from the first on
unfoldable pub plays_in : ℕ → Schedule → ℕ → Bool
plays_in count schedule first = list_any (plays_at schedule) (range_with_len first count)

-- ---- what it plays

-- the sample of a channel of the buffer at the position of a frame
abbrev pub sample_at : Option Content → Option ℕ → List ℤ → ℕ → ℤ
sample_at (Some content) (Some start) channel frame = slice_index_or channel (position content (frame - start)) (pos 0)
sample_at content start channel frame = pos 0

-- what a buffer source plays of a channel at a frame: silence where it does not sound
abbrev pub played : Schedule → List ℤ → ℕ → ℤ
played schedule channel frame = if plays_at schedule frame then sample_at schedule.content schedule.start channel frame else pos 0

-- ---- start and stop

-- a source that was not started: a constant source
abbrev pub constant : Schedule
constant = record { start = None; stop = None; ended = false; content = None }

-- and a buffer source
abbrev pub buffer : ℕ → Loop → Schedule
buffer rate points = record { start = None; stop = None; ended = false; content = Some (unstarted rate points) }

-- no call reaches back: a time before now stands for now
abbrev pub moment : ℕ → ℤ → ℕ
moment now when = unsigned_abs (int_max when (pos now))

-- whether an offset or a duration is negative, where there is one
abbrev pub is_any_negative : ℤ → Option ℤ → Bool
is_any_negative offset duration = is_negative offset || option_map_or is_negative duration false

-- why a start is refused: a source starts once, and at no negative time; a buffer source has no negative offset or duration, and a constant source looks at neither
abbrev pub start_refusal : Schedule → ℤ → ℤ → Option ℤ → Option Exc
start_refusal schedule when offset duration =
    if is_some schedule.start then Some InvalidState else
    if is_negative when then Some Range else
    if is_some schedule.content && is_any_negative offset duration then Some Range else None

-- why a stop is refused: a source is stopped once it was started, and at no negative time
abbrev pub stop_refusal : Schedule → ℤ → Option Exc
stop_refusal schedule when =
    if is_none schedule.start then Some InvalidState else
    if is_negative when then Some Range else None

-- the schedule after a start that is not refused, over a buffer of so many frames; a constant source has none
abbrev pub started : Schedule → ℕ → ℤ → ℤ → Option ℤ → ℕ → Schedule
started schedule now when offset duration length =
    record schedule { start = Some (moment now when); content = begun schedule.content offset duration length }

-- and after a stop: the last one counts, but none after the source has ended
abbrev pub stopped : Schedule → ℕ → ℤ → Schedule
stopped schedule now when = if schedule.ended then schedule else record schedule { stop = Some (moment now when) }

-- ---- the loop

-- the loop of a source that was started stays
abbrev pub loop_refusal : Schedule → Option Exc
loop_refusal schedule = if is_some schedule.start then Some (NotSupported (Some LoopChange)) else None

-- the schedule after the loop of a buffer source is changed; a constant source has none
abbrev pub with_loop : Loop → Schedule → Schedule
with_loop points schedule = record schedule { content = looped points schedule.content }

-- the loop of a buffer source
abbrev pub loop_of : Schedule → Option Loop
loop_of schedule = option_map (λ content. content.points) schedule.content

-- ---- bounds

-- every schedule has frames that 64 bits count
pub record IsCounted (begin : Option ℕ) (plays : Option Content) : Type 0 where
  pub start : IfSome begin (λ frame. frame < 2 ^ 63)
  pub content : IfSome plays IsPlayable
