-- What the memory of a world has, in the quantum after a tape.
use Rattle.std.specs.Prelude.{ℕ, ◌≡◌, ◌<◌, ◌≤◌, ◌*◌, ◌/◌, length, List, [], ◌∷◌, ◌++◌}
use Rattle.wa_base.specs.Contexts.{quantum_of}
use Rattle.delay_line.specs.Delays.{Writer}
use Rattle.conn_graph.specs.Ends.{writer_of}
use Rattle.meaning.specs.declared.world.World.{World}
use Rattle.meaning.specs.World.{node_at, kind_of}
use Rattle.meaning.specs.Values.{Frame, taken_in, frame}
use Rattle.meaning.specs.Worlds.{HasCapacity}
use Rattle.filter_bank.specs.Banks.{BankView, AreHeard, HaveRoom}
use Rattle.delay_bank.specs.Banks.{BankView as DelayBank, AreKept, HaveRoom as HaveDelayRoom}
use Rattle.quantum_render.specs.declared.memory.Memory.{Memory}

-- the causal nodes of a world after a tape have heard what their inputs took in before a frame
abbrev pub HasHeard : BankView → World → List World → ℕ → Type 0
HasHeard bank w tape now = AreHeard bank w now (λ n g c. taken_in (frame (quantum_of w.spec) (tape ++ w ∷ []) g) n c)

-- what the writer of a delay does where frames are given, in quanta of q frames: with how many channels in each quantum, and what it carries at each frame
abbrev pub writer_in : ℕ → (ℕ → Frame) → ℕ → Writer
writer_in q frames n = record { counts = λ k. (frames (q * k)).counts (writer_of n); frames = λ g. (frames g).values (writer_of n) 0 }

-- the delays of a world after a tape keep what their writers wrote before a frame
abbrev pub HasKept : DelayBank → World → List World → ℕ → Type 0
HasKept bank w tape now = AreKept bank w now (writer_in (quantum_of w.spec) (frame (quantum_of w.spec) (tape ++ w ∷ [])))

-- each node was born at the first frame of a quantum, and each delay keeps what it has to
pub record IsTimely (w : World) : Type 0 where
  pub born : (n : ℕ) → n < length w.nodes → quantum_of w.spec * ((node_at w n).attrs.birth / quantum_of w.spec) ≡ (node_at w n).attrs.birth
  pub capacity : (n : ℕ) → n < length w.nodes → HasCapacity (quantum_of w.spec) w.spec (kind_of w n)

-- The memory of a world is that of the quanta before a frame.
pub record IsMemory (memory : Memory) (w : World) (tape : List World) (now : ℕ) : Type 0 where
  pub heard : HasHeard memory.causal w tape now
  pub kept : HasKept memory.delays w tape now

-- each node has its place in it, with room for its channels, and both are for the quanta of the world
pub record HasRooms (memory : Memory) (w : World) (counts : List ℕ) : Type 0 where
  pub causal : length w.nodes ≤ length memory.causal.nodes
  pub delays : length w.nodes ≤ length memory.delays.delays
  pub causal_rooms : HaveRoom memory.causal counts
  pub delay_rooms : HaveDelayRoom memory.delays counts
  pub causal_quantum : memory.causal.quantum ≡ quantum_of w.spec
  pub delay_quantum : memory.delays.quantum ≡ quantum_of w.spec
