-- A buffer source that sounds in a quantum.
use Rattle.std.specs.Prelude.{ℕ, ◌≡◌, ◌<◌, List, length, Option, None, Some, IfSome, if◌then◌else◌, option_map, option_and_then}
use Rattle.wa_base.specs.Contexts.{quantum_of}
use Rattle.wa_base.specs.declared.graph_names.BufId.{BufId}
use Rattle.buffer_store.specs.declared.buffers.Buffer.{Buffer as AudioBuffer}
use Rattle.buffer_store.specs.Buffers.{AreBuffers}
use Rattle.sched_source.specs.Schedule.{Schedule, plays_in}
use Rattle.meaning.specs.declared.scheds.Play.{Play}
use Rattle.meaning.specs.declared.world.World.{World}
use Rattle.meaning.specs.World.{find_play, frames_in}

-- its schedule, and the buffer that it plays
pub record SourceView : Type 0 where
  pub sched : Schedule
  pub store : List AudioBuffer
  pub buffer : BufId

-- the buffer is there, with the frames over which the source was started
pub record IsHeard (schedule : Schedule) (buffers : List AudioBuffer) (source : BufId) : Type 0 where
  pub buffers_are : AreBuffers buffers
  pub there : source.0 < length buffers
  pub length_of : IfSome schedule.content (λ content. content.length ≡ frames_in buffers (Some source))

-- a source in the quantum that begins at a frame, if it sounds there
abbrev pub heard_of : World → ℕ → Play → Option SourceView
heard_of w first play =
    if plays_in (quantum_of w.spec) play.sched first
    then option_map {T = BufId} (λ b. let s : SourceView = record { sched = play.sched; store = w.store; buffer = b } in s) play.buffer
    else None

abbrev pub heard_source : World → ℕ → ℕ → Option SourceView
heard_source w node first = option_and_then (heard_of w first) (find_play w.scheds.items node)
