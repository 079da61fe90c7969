-- What contracts see of a session.
use Rattle.std.specs.Prelude.{ℕ, ◌≡◌, ◌≤◌, ◌+◌, ◌*◌, ◌++◌, ◌∷◌, [], ℤ, List, length, map, Bool, Option, Some, None, true, IsTrue, IsSome, IfSome}
use Rattle.wa_base.specs.Contexts.{quantum_of, IsSupported}
use Rattle.wa_base.specs.declared.contexts.ContextSpec.{ContextSpec}
use Rattle.meaning.specs.declared.change.Change.{Change}
use Rattle.meaning.specs.declared.world.World.{World}
use Rattle.meaning.specs.World.{sounding}
use Rattle.meaning.specs.Validity.{IsValid}
use Rattle.ctx_state.specs.Context.{is_closed}
use Rattle.control_msgs.specs.declared.message.Message.{Message}
use Rattle.control_msgs.specs.Messages.{after_message, after_messages, ended_marked, AreAcceptedBy}
use Rattle.meaning.specs.Worlds.{IsRegular}
use Rattle.conn_graph.specs.Walks.{GraphView}
use Rattle.quantum_render.specs.Plans.{PlanView, IsPlanned, IsUnedited}
use Rattle.quantum_render.specs.Stands.{RendererView, StandsFor, IsSettled, HoldsLevels, Rests, plan_of}
use Rattle.script_ast.specs.declared.call_list.Call.{Call}
use Rattle.io_edge.specs.Paths.{Paths}
use Rattle.session.specs.Folders.{Folder, IsFolderOf, AgreeBetween}
use Rattle.control_side.specs.Machine.{Machine, world_caught_up}
use Rattle.session.specs.Rows.{samples_of}
use Rattle.control_side.specs.Step.{Sends}
use Rattle.session.specs.declared.render_side.Standing.{Standing}
use Rattle.session.specs.declared.render_side.Standing.TheVariants.{Changed, Unchanged, Edited, Settled}
use Rattle.session.specs.Session.{Told, Played, first_told, quanta_left, finished, replayed, turns, TurnsDecode}

-- the machine and the lines, whether there is audio, the samples, and with audio the renderer
pub record SessionView : Type 0 where
  pub told : Told
  pub audio : Bool
  pub samples : List ℤ
  pub renderer : Option RendererView

-- ---- the side that renders

-- its world, the messages that it did not hear yet, for how many more there is room, and its renderer
pub record SideView : Type 0 where
  pub world : World
  pub messages : List Message
  pub room : ℕ
  pub renderer : RendererView

-- its world once it has heard all messages
abbrev pub sent : SideView → World
sent side = after_messages side.world side.messages

-- A plan was made of this graph at some time of its edits, or of no graph: the graph has no fewer edits than it had then, and where nothing was edited since, the plan is its own.
pub record PlansFor (plan : PlanView) (graph : GraphView) : Type 0 where
  pub earlier : IfSome plan.planned (λ edits. edits ≤ graph.edits)
  pub unedited : IsUnedited plan.planned graph → IsPlanned graph.value plan

-- what is known of a renderer in a world, by how it stands there
abbrev pub IsStanding : Standing → RendererView → World → Type 0
IsStanding Changed r w = Unit {0}
IsStanding Unchanged r w = Unit {0}
IsStanding Edited r w = IsSettled r w
IsStanding Settled r w = IsSettled r w × HoldsLevels r w × Rests r w

-- what holds of every such side, whose world has a graph that is edited on and on: its world can hear all messages, and its renderer planned for the graph, and stands as it says in the world that is sent
pub record IsSide (side : SideView) (graph : GraphView) (standing : Standing) : Type 0 where
  pub valid : IsValid side.world
  pub accepted : AreAcceptedBy side.world side.messages
  pub plans : PlansFor (plan_of side.renderer) graph
  pub stands : IsStanding standing side.renderer (sent side)

-- ---- what holds of every session

-- with audio, the samples are there once rendering was started
abbrev pub HasRoom : Bool → Machine → List ℤ → Type 0
HasRoom audio machine samples = IsTrue audio → IsSome machine.context.started → length samples ≡ machine.world.spec.channels * machine.world.spec.length

-- a renderer of a context went through the quanta before a frame
pub record IsAt (spec : ContextSpec) (time : ℕ) (renderer : RendererView) : Type 0 where
  pub context : renderer.spec ≡ spec
  pub quanta : time ≡ quantum_of spec * renderer.quanta

-- The side that renders went through the quanta before the machine's time, and its world with the messages that are still queued is the machine's. Both have the same slots still to be set.
pub record KeepsUp (machine : Machine) (side : SideView) : Type 0 where
  pub renderer : IsAt machine.world.spec machine.context.time side.renderer
  pub world : sent side ≡ machine.world

pub record IsSound (audio : Bool) (machine : Machine) (room : ℕ) (samples : List ℤ) (side : Option SideView) : Type 0 where
  pub line : 1 ≤ room
  pub samples_long : HasRoom audio machine samples
  pub side_keeps_up : IfSome side (KeepsUp machine)

-- ---- steps of the side that renders, where there is one

abbrev pub Follows : (SideView → SideView → Type 0) → Option SideView → Option SideView → Type 0
Follows step None None = Unit {0}
Follows step (Some old) (Some new) = step old new
Follows step None (Some new) = ⊥
Follows step (Some old) None = ⊥

-- it makes room for messages
pub record MakesRoom (more : ℕ) (old new : SideView) : Type 0 where
  pub same : new ≡ record old { room = new.room }
  pub room : more ≤ new.room

-- it gets a message
pub record Gets (message : Message) (old new : SideView) : Type 0 where
  pub world : sent new ≡ after_message (sent old) message
  pub renderer : new.renderer ≡ old.renderer
  pub room : new.room + 1 ≡ old.room

-- it marks the sources that end before the quantum that begins at a frame
pub record Marks (next : ℕ) (old new : SideView) : Type 0 where
  pub world : sent new ≡ ended_marked next (sent old)
  pub renderer : new.renderer ≡ old.renderer

-- it sets the slots that are left to be set
pub record CatchesUp (behind : Option ℕ) (old new : SideView) : Type 0 where
  pub world : sent new ≡ world_caught_up behind (sent old)
  pub renderer : new.renderer ≡ old.renderer

-- it hears of what a call sends
pub record Hears (change : Option Change) (old new : SideView) : Type 0 where
  pub world : Sends (sent old) (sent new) change
  pub renderer : new.renderer ≡ old.renderer

-- ---- the tape

-- A renderer stands for worlds that sound as those of the tape.
pub record Renders (tape : List World) (renderer : RendererView) : Type 0 where
  pub worlds : List World
  pub alike : map sounding worlds ≡ map sounding tape
  pub stands : StandsFor renderer worlds

-- It renders the quantum that begins at a frame, in the world that it was sent, into samples.
pub record GoesOn (first : ℕ) (old_samples new_samples : List ℤ) (old new : SideView) : Type 0 where
  pub world : sent new ≡ sent old
  pub room : old.room ≤ new.room
  pub at : IsAt (sent old).spec (first + quantum_of (sent old).spec) new.renderer
  pub renders : (tape : List World) → Renders tape old.renderer → IsRegular (quantum_of (sent old).spec) (tape ++ sent old ∷ []) → Renders (tape ++ sent old ∷ []) new.renderer
  pub samples : (tape : List World) → Renders tape old.renderer → IsRegular (quantum_of (sent old).spec) (tape ++ sent old ∷ []) → first ≡ quantum_of (sent old).spec * length tape
      → old_samples ≡ samples_of tape (sent old).spec → new_samples ≡ samples_of (tape ++ sent old ∷ []) (sent old).spec

-- It renders nothing, for want of memory.
pub record Waits (first : ℕ) (old new : SideView) : Type 0 where
  pub world : sent new ≡ sent old
  pub at : IsAt (sent old).spec first new.renderer
  pub renders : (tape : List World) → Renders tape old.renderer → Renders tape new.renderer

-- The session stands for a tape: so many quanta were rendered, the machine's world can be the next one, the samples are those of the tape, and the renderer stands for it.
pub record Stands (view : SessionView) (tape : List World) : Type 0 where
  pub time : view.told.machine.context.time ≡ quantum_of view.told.machine.world.spec * length tape
  pub regular : IsRegular (quantum_of view.told.machine.world.spec) (tape ++ view.told.machine.world ∷ [])
  pub samples : IsTrue view.audio → IsSome view.told.machine.context.started → view.samples ≡ samples_of tape view.told.machine.world.spec
  pub renders : IfSome view.renderer (Renders tape)

-- a session in which no call came yet
pub record IsFirst (spec : ContextSpec) (audio : Bool) (view : SessionView) : Type 0 where
  pub told : view.told ≡ first_told spec
  pub heard : view.audio ≡ audio
  pub samples : view.samples ≡ []
  pub stands : Stands view []

-- A session stands as before; only what its renderer prepared may differ.
pub record IsAsBefore (old new : SessionView) : Type 0 where
  pub told : new.told ≡ old.told
  pub audio : new.audio ≡ old.audio
  pub samples : new.samples ≡ old.samples
  pub stands : (tape : List World) → Stands old tape → Stands new tape

-- what a session comes to that goes on turn by turn
abbrev pub turns_of : Folder → SessionView → List Call → Played
turns_of folder view calls = turns (quanta_left view.told.machine) folder calls view.told []

-- Over a folder of the store a session came to its end, turn by turn, and stands for its tape then, which was shown: whatever a folder holds at other moments.
pub record IsPlayed (shown : List World → Type 0) (tells : Bool) (paths : Paths) (calls : List Call) (old new : SessionView) : Type 0 where
  pub folder : Folder
  pub of : IsFolderOf tells paths folder
  pub tape : List World
  pub stands : Stands new tape
  pub seen : shown tape
  pub played : (other : Folder) → AgreeBetween (length old.told.lines) (length new.told.lines) folder other → turns_of other old calls ≡ finished new.told tape

-- Over a folder of the store a session comes to a decodeAudioData in one of its turns.
pub record ComesToDecode (tells : Bool) (paths : Paths) (calls : List Call) (old new : SessionView) : Type 0 where
  pub folder : Folder
  pub of : IsFolderOf tells paths folder
  pub decodes : (other : Folder) → AgreeBetween (length old.told.lines) (length new.told.lines) folder other → TurnsDecode (quanta_left old.told.machine) other calls old.told

-- Over a folder of the store a session did its main list, and went on to its end where that started it.
pub record IsReplayed (shown : List World → Type 0) (tells : Bool) (paths : Paths) (calls : List Call) (old new : SessionView) : Type 0 where
  pub folder : Folder
  pub of : IsFolderOf tells paths folder
  pub tape : List World
  pub stands : Stands new tape
  pub seen : shown tape
  pub played : replayed folder calls old.told ≡ finished new.told tape
  pub begun : is_closed new.told.machine.context.state ≡ true → IsSome new.told.machine.context.started
  pub spec : new.told.machine.world.spec ≡ old.told.machine.world.spec
  pub supported : IsSupported new.told.machine.world.spec
