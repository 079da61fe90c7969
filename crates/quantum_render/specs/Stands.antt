-- What a renderer stands for.
use Rattle.std.specs.Prelude.{ℕ, ℤ, Option, ◌≡◌, ◌<◌, ◌≤◌, ◌^◌, ◌+◌, ◌-◌, ◌*◌, ◌++◌, ◌∷◌, [], List, Bool, length, max}
use Rattle.wa_base.specs.Contexts.{quantum_of, IsQuantumSize}
use Rattle.wa_base.specs.declared.contexts.ContextSpec.{ContextSpec}
use Rattle.wa_base.specs.declared.graph_names.End.{End}
use Rattle.wa_base.specs.declared.graph_names.Tie.{Tie}
use Rattle.conn_graph.specs.declared.edges.Edge.{Edge}
use Rattle.mix_rules.specs.Blocks.{sample as channel_sample}
use Rattle.meaning.specs.declared.world.World.{World}
use Rattle.meaning.specs.Rendered.{sample}
use Rattle.meaning.specs.Worlds.{IsRegular}
use Rattle.meaning.specs.Pasts.{Past, past, last_world}
use Rattle.delay_line.specs.Delays.{Writer}
use Rattle.filter_bank.specs.Banks.{AreHeard, AreNew, HaveRoom}
use Rattle.delay_bank.specs.Banks.{AreKept, AreNew as AreNewDelays, HaveRoom as HaveDelayRoom}
use Rattle.quantum_render.specs.declared.memory.Memory.{Memory}
use Rattle.automation.specs.Ready.{AutomationView, IsReady, IsHeld}
use Rattle.quantum_blocks.specs.Blocks.{BlockView}
use Rattle.quantum_blocks.specs.Fits.{AreInRange, AreFit}
use Rattle.quantum_render.specs.Plans.{IsPlan, PlanView, AreCycles, AreCounted, AreSteady}
use Rattle.quantum_render.specs.Idle.{RestView, AreIdle}

-- What contracts see of a renderer. Callers read the context and the number of quanta.
pub record RendererView : Type 0 where
  pub spec : ContextSpec
  -- the quanta that were rendered
  pub quanta : ℕ
  -- which of two ends is rendered first where either may be
  pub tie : Tie
  -- the plan of the world that was prepared last, with the number of its graph's edits
  pub planned : Option ℕ
  pub order : List End
  pub muted : List End
  pub into : List (List Edge)
  pub cycles : List Bool
  -- the ends whose channels hang on the time
  pub timed : List End
  -- the level of each node's parameter, and the place in each timeline that goes on
  pub automation : AutomationView
  -- what the nodes remember: the causal nodes what they have heard, and the delays what their writers wrote
  pub memory : Memory
  -- the channels of each end in the next quantum
  pub counts : List ℕ
  -- the block of each end
  pub blocks : List BlockView
  -- which ends are idle, as far as it looked ahead
  pub rest : RestView
  -- what the destination carried in the last quantum
  pub out : List ℤ

-- its plan
abbrev pub plan_of : RendererView → PlanView
plan_of r = record { planned = r.planned; tie = r.tie; order = r.order; muted = r.muted; into = r.into; cycles = r.cycles; timed = r.timed }

-- what the writer of a delay did in a past
abbrev pub past_writer : Past → ℕ → Writer
past_writer p n = record { counts = p.counts n; frames = p.written n }

-- What a renderer remembers of a past, with the last world before it: the number of its quanta, that of its nodes, what the causal nodes among them have heard, and what the writers of the delays wrote.
pub record Remembers (r : RendererView) (w : World) (p : Past) : Type 0 where
  pub quanta : r.quanta ≡ p.quanta
  pub nodes : (r.memory.causal.known ≡ length w.nodes) × (r.memory.delays.known ≡ length w.nodes)
  pub causal : AreHeard r.memory.causal w (quantum_of r.spec * r.quanta) p.heard
  pub delays : AreKept r.memory.delays w (quantum_of r.spec * r.quanta) (past_writer p)

-- A renderer stands for the tapes whose past it remembers: those of the worlds that it went through.
abbrev pub StandsFor : RendererView → List World → Type 0
StandsFor r tape = Remembers r (last_world tape) (past (quantum_of r.spec) tape)

-- A renderer shows the meaning of a tape's last quantum: what the destination carried in it.
abbrev pub Shows : RendererView → List World → Type 0
Shows r tape = (c m : ℕ) → c < r.spec.channels → m < quantum_of r.spec →
    channel_sample (quantum_of r.spec) r.out c m ≡ sample (quantum_of r.spec) tape (quantum_of r.spec * (length tape - 1) + m) c

-- ---- after `prepare`, `counts` and `grow` over a world

-- each causal node has what it heard, and each delay what it keeps; the new ones have heard and kept nothing
pub record HasMemory (r : RendererView) (w : World) : Type 0 where
  pub causal_count : length r.memory.causal.nodes ≡ max r.memory.causal.known (length w.nodes)
  pub delay_count : length r.memory.delays.delays ≡ max r.memory.delays.known (length w.nodes)
  pub fresh_causal : AreNew r.memory.causal w
  pub fresh_delays : AreNewDelays r.memory.delays w

pub record IsPrepared (r : RendererView) (w : World) : Type 0 where
  pub plan : IsPlan w r.order r.muted r.into
  pub cycles : AreCycles w.graph.value r.cycles
  pub places : length r.counts ≡ 2 * length w.nodes
  -- each cursor stands at the first frame of the next quantum in its timeline
  pub automation : IsReady w.params.items (quantum_of r.spec * r.quanta) r.automation
  pub memory : HasMemory r w

-- The channels are those of the quantum after each tape for which the renderer stands.
pub record IsCounted (r : RendererView) (w : World) : Type 0 where
  pub plan : IsPlan w r.order r.muted r.into
  pub cycles : AreCycles w.graph.value r.cycles
  pub range : AreInRange w r.counts
  pub automation : IsReady w.params.items (quantum_of r.spec * r.quanta) r.automation
  pub memory : HasMemory r w
  pub counted : (tape : List World) → StandsFor r tape → IsRegular (quantum_of r.spec) (tape ++ w ∷ []) → AreCounted (quantum_of r.spec) w r.counts tape

-- What a renderer knows of idle ends is so, if it is known of all of the next quantum.
abbrev pub Rests : RendererView → World → Type 0
Rests r w = quantum_of r.spec * (r.quanta + 1) ≤ r.rest.until → AreIdle w r.counts (quantum_of r.spec * r.quanta) r.rest.until r.rest.marks r.blocks

pub record IsGrown (r : RendererView) (w : World) : Type 0 where
  pub counted : IsCounted r w
  pub blocks : AreFit w r.counts r.blocks
  pub causal_rooms : HaveRoom r.memory.causal r.counts
  pub delay_rooms : HaveDelayRoom r.memory.delays r.counts
  pub rests : Rests r w

-- ---- after `pass` over a world

-- All is there that a quantum of the world takes, whatever its counts are: a plan, rooms and memory for those of the last one.
pub record IsFitted (r : RendererView) (w : World) : Type 0 where
  pub plan : IsPlan w r.order r.muted r.into
  pub cycles : AreCycles w.graph.value r.cycles
  pub range : AreInRange w r.counts
  pub blocks : AreFit w r.counts r.blocks
  pub causal_rooms : HaveRoom r.memory.causal r.counts
  pub delay_rooms : HaveDelayRoom r.memory.delays r.counts
  pub causal_known : r.memory.causal.known ≡ length r.memory.causal.nodes
  pub delays_known : r.memory.delays.known ≡ length r.memory.delays.delays
  pub causal_all : length w.nodes ≤ length r.memory.causal.nodes
  pub delays_all : length w.nodes ≤ length r.memory.delays.delays

-- A renderer is settled in a world where its counts can change with the time alone.
pub record IsSettled (r : RendererView) (w : World) : Type 0 where
  pub fitted : IsFitted r w
  pub steady : AreSteady w r.order r.muted r.timed r.counts

-- Its levels are held in a world: those that it found to stay are the parameters' levels in all later quanta.
abbrev pub HoldsLevels : RendererView → World → Type 0
HoldsLevels r w = IsHeld w.params.items (quantum_of r.spec * r.quanta) r.automation

-- what holds of every renderer: all parts are for quanta of the context's size
pub record IsWhole (context : ContextSpec) (number : ℕ) (automated : AutomationView) (remembered : Memory) (frames : ℕ) (last : List ℤ) : Type 0 where
  pub channels : context.channels ≤ 32
  pub size : IsQuantumSize (quantum_of context)
  pub time : quantum_of context * number ≤ 2 ^ 62 + 2 ^ 10
  pub automation : automated.quantum ≡ quantum_of context
  pub causal : remembered.causal.quantum ≡ quantum_of context
  pub delays : remembered.delays.quantum ≡ quantum_of context
  pub bench : frames ≡ quantum_of context
  pub out : length last ≡ 32 * quantum_of context
