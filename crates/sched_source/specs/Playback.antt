-- What a buffer source plays (AudioBufferSourceNode), as formulas in the frame. Positions, offsets and the ends of a loop are frames of its buffer.
use Rattle.std.specs.Prelude.{ℕ, ◌+◌, ◌-◌, ◌*◌, ◌%◌, ◌≤◌, ◌^◌, min, nat_le, nat_lt, ℤ, unsigned_abs, int_lt, Bool, not, ◌&&◌, if◌then◌else◌, Option, Some, None, IfSome, option_map}
use Rattle.std.specs.Int.{is_negative, is_positive, div_ceil}
use Rattle.std.specs.Option.{option_map_or}
use Rattle.sched_source.specs.declared.content.Content.{Content}
use Rattle.sched_source.specs.declared.content.Loop.{Loop}

-- ---- the loop

-- whether `loopStart` and `loopEnd` are the ends of the loop: neither lies before the buffer, the end lies past the start, and the start within the buffer
unfoldable pub has_points : Content → Bool
has_points content =
    not (is_negative content.points.first)
    && (is_positive content.points.end
    && (int_lt content.points.first content.points.end && nat_lt (unsigned_abs content.points.first) content.length))

-- where the loop begins: at `loopStart`, or else at the buffer's first frame
unfoldable pub loop_start : Content → ℕ
loop_start content = if has_points content then unsigned_abs content.points.first else 0

-- the position before which it ends: `loopEnd`, or else the buffer's end
unfoldable pub loop_end : Content → ℕ
loop_end content = if has_points content then min (unsigned_abs content.points.end) content.length else content.length

-- whether it plays around the loop; a buffer without frames has nothing to play
abbrev pub is_looping : Content → Bool
is_looping content = content.points.on && nat_lt 0 content.length

-- ---- the position

-- the end of the loop, or of the buffer
abbrev pub end_of : Content → ℕ
end_of content = if content.points.on then loop_end content else content.length

-- the position at the start: the offset, but none past that end
abbrev pub first_position : Content → ℕ
first_position content = min content.offset (end_of content)

-- a position at or past a loop's end is taken back into the loop
abbrev pub wrapped : ℕ → ℕ → ℕ → ℕ
wrapped start end p = if nat_le end p then start + (p - start) % (end - start) else p

-- the position so many frames after the start: in each frame it moves on by the playback rate
unfoldable pub position : Content → ℕ → ℕ
position content n =
    if is_looping content then wrapped (loop_start content) (loop_end content) (first_position content + n * content.rate)
    else first_position content + n * content.rate

-- ---- the length played

-- how many frames of the buffer are played: those from the first position on, and no more than the duration; around a loop as many as the duration says, and without one there is no bound
abbrev pub content_played : Content → Option ℕ
content_played content =
    if is_looping content then content.duration
    else Some (option_map_or (min (content.length - first_position content)) content.duration (content.length - first_position content))

-- in how many frames they are played: the last of these may have less of the buffer than the others
abbrev pub length_played : Content → Option ℕ
length_played content = option_map (λ frames. div_ceil frames content.rate) (content_played content)

-- ---- what a source is given

-- a buffer source that was not started
abbrev pub unstarted : ℕ → Loop → Content
unstarted rate points = record { rate = rate; points = points; offset = 0; duration = None; length = 0 }

-- no offset and no duration that is accepted is negative
abbrev pub absolute : Option ℤ → Option ℕ
absolute duration = option_map unsigned_abs duration

-- the content once it is started, over a buffer of so many frames; a constant source has none
abbrev pub begun : Option Content → ℤ → Option ℤ → ℕ → Option Content
begun (Some content) offset duration length = Some (record content { offset = unsigned_abs offset; duration = absolute duration; length = length })
begun None offset duration length = None

-- its loop is another
abbrev pub looped : Loop → Option Content → Option Content
looped points (Some content) = Some (record content { points = points })
looped points None = None

-- ---- bounds

-- a rate of 1 or more, and frames that 64 bits count
pub record IsPlayable (content : Content) : Type 0 where
  pub rate : 1 ≤ content.rate
  pub duration : IfSome content.duration (λ frames. frames ≤ 2 ^ 63)
  pub length : content.length ≤ 2 ^ 62
