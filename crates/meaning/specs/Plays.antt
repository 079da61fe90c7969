-- What a call makes of the schedule of a source, and of the buffer that it plays.
use Rattle.std.specs.Prelude.{ℕ, ◌||◌, List, Option, None, Some, is_some, option_map}
use Rattle.wa_base.specs.declared.graph_names.BufId.{BufId}
use Rattle.buffer_store.specs.declared.buffers.Buffer.{Buffer as AudioBuffer}
use Rattle.buffer_store.specs.Buffers.{frozen, changed_at}
use Rattle.sched_source.specs.declared.content.Content.{Content}
use Rattle.sched_source.specs.declared.content.Loop.{Loop}
use Rattle.sched_source.specs.Schedule.{Schedule, started, stopped, buffer}
use Rattle.meaning.specs.declared.scheds.LoopPart.{LoopPart}
use Rattle.meaning.specs.declared.scheds.LoopPart.TheVariants as part
use Rattle.meaning.specs.declared.scheds.Play.{Play}
use Rattle.meaning.specs.declared.sources.SourceEdit.{SourceEdit}
use Rattle.meaning.specs.declared.sources.SourceEdit.TheVariants as edit

-- a buffer source as it is created
abbrev pub new_source : ℕ → ℕ → Option BufId → Loop → Play
new_source node rate source points = record { id = record { 0 = node }; sched = buffer rate points; buffer = source; was_set = is_some source }

abbrev pub rescheduled : Play → Schedule → Play
rescheduled play sched = record play { sched = sched }

-- it gets a buffer, or loses it; that it had one is remembered
abbrev pub with_buffer : Option BufId → Play → Play
with_buffer buffer play = record play { buffer = buffer; was_set = play.was_set || is_some buffer }

-- a part of a loop is set
abbrev pub with_part : LoopPart → Loop → Loop
with_part (part.On on) points = record points { on = on }
with_part (part.First first) points = record points { first = first }
with_part (part.End end) points = record points { end = end }

abbrev pub with_loop_part : LoopPart → Schedule → Schedule
with_loop_part part sched = record sched { content = option_map {T = Content} (λ content. record content { points = with_part part content.points }) sched.content }

-- a source after an edit, where its buffer has so many frames
abbrev pub play_edited : ℕ → ℕ → SourceEdit → Play → Play
play_edited frames now (edit.Start when offset duration) play = rescheduled play (started play.sched now when offset duration frames)
play_edited frames now (edit.Stop when) play = rescheduled play (stopped play.sched now when)
play_edited frames now (edit.SetBuffer buffer) play = with_buffer buffer play
play_edited frames now (edit.SetLoop part) play = rescheduled play (with_loop_part part play.sched)

-- ---- the buffer that it acquires

-- a buffer, if there is one, can't be written any more
abbrev pub frozen_in : List AudioBuffer → Option BufId → List AudioBuffer
frozen_in store None = store
frozen_in store (Some buffer) = changed_at buffer.0 frozen store

-- a source that is started acquires its buffer
abbrev pub acquires : SourceEdit → Play → Option BufId
acquires (edit.Start when offset duration) play = play.buffer
acquires (edit.Stop when) play = None
acquires (edit.SetBuffer buffer) play = None
acquires (edit.SetLoop part) play = None

abbrev pub acquired : List AudioBuffer → SourceEdit → Option Play → List AudioBuffer
acquired store e None = store
acquired store e (Some play) = frozen_in store (acquires e play)
