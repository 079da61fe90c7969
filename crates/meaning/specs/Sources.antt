-- The calls on sources and buffers: what they change in a world, and why it refuses them.
use Rattle.std.specs.Prelude.{ℕ, ◌<◌, ◌==◌, ◌&&◌, List, [], ◌∷◌, ◌++◌, length, map, Bool, true, false, if◌then◌else◌, Option, None, Some, is_some, IfSome}
use Rattle.std.specs.Option.{option_or}
use Rattle.wa_base.specs.declared.exceptions.Exc.{Exc}
use Rattle.wa_base.specs.declared.exceptions.Exc.TheVariants.{NotSupported, InvalidState, WrongType}
use Rattle.wa_base.specs.declared.features.Feature.TheVariants.{LateBuffer, Resampling}
use Rattle.wa_base.specs.declared.graph_names.BufId.{BufId}
use Rattle.buffer_store.specs.Recordings.{IsRecording}
use Rattle.buffer_store.specs.declared.buffers.Buffer.{Buffer as AudioBuffer}
use Rattle.buffer_store.specs.Buffers.{silence, recorded, with_written, changed_at, adoption_refusal, refusal_at, write_refusal}
use Rattle.buffer_store.specs.Buffers as buffers
use Rattle.sched_source.specs.Schedule.{start_refusal, stop_refusal}
use Rattle.sched_source.specs.Schedule as schedules
use Rattle.node_table.specs.Kinds.{range_refusal}
use Rattle.node_table.specs.Nodes.{creation_refusal}
use Rattle.node_table.specs.declared.kinds.Kind.TheVariants.{Buffer}
use Rattle.meaning.specs.declared.buffers.BufferEdit.{BufferEdit}
use Rattle.meaning.specs.declared.buffers.BufferEdit.TheVariants as buffer_edit
use Rattle.meaning.specs.declared.scheds.Play.{Play}
use Rattle.meaning.specs.declared.sources.SourceEdit.{SourceEdit}
use Rattle.meaning.specs.declared.sources.SourceEdit.TheVariants as edit
use Rattle.meaning.specs.declared.world.World.{World}
use Rattle.meaning.specs.Lists.{listed}
use Rattle.meaning.specs.Plays.{play_edited, acquired}
use Rattle.meaning.specs.World.{find_play, frames_in, of_buffer}

-- ---- what they change

abbrev pub with_plays : World → List Play → World
with_plays w plays = record w { scheds = listed plays }

-- a schedule is changed if it is that of the node
abbrev pub changed_play : ℕ → (Play → Play) → Play → Play
changed_play node change play = if play.id.0 == node then change play else play

abbrev pub with_play : World → ℕ → (Play → Play) → World
with_play w node change = with_plays w (map (changed_play node change) w.scheds.items)

abbrev pub with_store : World → List AudioBuffer → World
with_store w store = record w { store = store }

-- what an edit of a source at a time makes of a world
abbrev pub source_edited : World → ℕ → ℕ → SourceEdit → World
source_edited w now node e =
    with_play (with_store w (acquired w.store e (find_play w.scheds.items node))) node (λ play. play_edited (frames_in w.store play.buffer) now e play)

-- and of the buffers
abbrev pub buffers_edited : List AudioBuffer → BufferEdit → List AudioBuffer
buffers_edited store (buffer_edit.Create channels frames rate) = store ++ silence channels frames rate ∷ []
buffers_edited store (buffer_edit.Adopt wav) = store ++ recorded wav ∷ []
buffers_edited store (buffer_edit.Write buffer channel samples first) = changed_at buffer.0 (with_written channel samples first) store

-- whether there is a buffer more
abbrev pub makes_buffer : BufferEdit → Bool
makes_buffer (buffer_edit.Create channels frames rate) = true
makes_buffer (buffer_edit.Adopt wav) = true
makes_buffer (buffer_edit.Write buffer channel samples first) = false

-- ---- why they are refused

-- no buffer is resampled: its rate is to be the context's
abbrev pub resampling_refusal : World → Option BufId → Option Exc
resampling_refusal w buffer = if of_buffer (λ b. b.shape.rate == w.spec.rate) true w.store buffer then None else Some (NotSupported (Some Resampling))

-- only a buffer source has a buffer and a loop
abbrev pub of_source : Play → Option Exc → Option Exc
of_source play others = if is_some play.sched.content then others else Some WrongType

-- it is given a buffer once, and none after it was started
abbrev pub buffer_refusal : World → Option BufId → Play → Option Exc
buffer_refusal w buffer play = of_source play (
    if is_some buffer && play.was_set then Some InvalidState
    else if is_some play.sched.start then Some (NotSupported (Some LateBuffer))
    else resampling_refusal w buffer
    )

-- and no other loop after that
abbrev pub loop_refusal : Play → Option Exc
loop_refusal play = of_source play (schedules.loop_refusal play.sched)

-- only a source has a schedule
abbrev pub source_refusal : World → SourceEdit → Option Play → Option Exc
source_refusal w e None = Some WrongType
source_refusal w (edit.Start when offset duration) (Some play) = start_refusal play.sched when offset duration
source_refusal w (edit.Stop when) (Some play) = stop_refusal play.sched when
source_refusal w (edit.SetBuffer buffer) (Some play) = buffer_refusal w buffer play
source_refusal w (edit.SetLoop part) (Some play) = loop_refusal play

-- a buffer source is refused for its rate, then for its buffer, and then for want of room
abbrev pub source_creation_refusal : World → ℕ → Option BufId → Option Exc
source_creation_refusal w rate buffer = option_or (range_refusal (Buffer rate)) (option_or (resampling_refusal w buffer) (creation_refusal w.nodes (Buffer rate)))

abbrev pub buffers_refusal : List AudioBuffer → BufferEdit → Option Exc
buffers_refusal store (buffer_edit.Create channels frames rate) = buffers.creation_refusal store channels frames rate
buffers_refusal store (buffer_edit.Adopt wav) = adoption_refusal store wav
buffers_refusal store (buffer_edit.Write buffer channel samples first) = refusal_at store buffer.0 (write_refusal channel)

-- ---- what they name

-- a buffer is in the store, if there is one
abbrev pub IsBufferOf : List AudioBuffer → Option BufId → Type 0
IsBufferOf store buffer = IfSome buffer (λ b. b.0 < length store)

-- so is the buffer that an edit of a source names
abbrev pub IsNamedBy : List AudioBuffer → SourceEdit → Type 0
IsNamedBy store (edit.Start when offset duration) = Unit {0}
IsNamedBy store (edit.Stop when) = Unit {0}
IsNamedBy store (edit.SetBuffer buffer) = IsBufferOf store buffer
IsNamedBy store (edit.SetLoop part) = Unit {0}

-- and the one that is written; what is adopted is a recording
abbrev pub IsEditOf : List AudioBuffer → BufferEdit → Type 0
IsEditOf store (buffer_edit.Create channels frames rate) = Unit {0}
IsEditOf store (buffer_edit.Adopt wav) = IsRecording wav
IsEditOf store (buffer_edit.Write buffer channel samples first) = buffer.0 < length store
