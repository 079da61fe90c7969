-- What an end carries in a quantum: the meaning of a frame, over the blocks of the ends before it in an order.
use Rattle.std.specs.Prelude.{ℕ, ℤ, ◌+◌, ◌-◌, ◌*◌, ◌/◌, ◌≡◌, ◌<◌, ◌≤◌, ◌⊎◌, length, List, slice_index_or, slice_set, true, false}
use Rattle.wa_base.specs.Contexts.{quantum_of}
use Rattle.node_table.specs.declared.equation.Equation.{Equation}
use Rattle.node_table.specs.Kinds.{outputs}
use Rattle.node_table.specs.declared.kinds.Kind.{Kind}
use Rattle.node_table.specs.declared.kinds.Kind.TheVariants.{Delay, Causal}
use Rattle.node_table.specs.Delays.{delay_capacity}
use Rattle.delay_line.specs.Delays.{Writer}
use Rattle.conn_graph.specs.Ends.{writer_of, reader_of, in_cycle, muted}
use Rattle.meaning.specs.World.{sounding, node_at, kind_of}
use Rattle.meaning.specs.Counts.{Counts, count_by_kind}
use Rattle.meaning.specs.Values.{Frame, taken_in, value_by_kind}
use Rattle.meaning.specs.Blocks.{with_drafts}
use Rattle.filter_bank.specs.Heard.{IsHeard}
use Rattle.filter_bank.specs.Banks.{heard_at}
use Rattle.delay_bank.specs.Kept.{IsKept}
use Rattle.delay_bank.specs.Banks.{BankView as DelayBank, delay_at}
use Rattle.quantum_render.specs.declared.memory.Memory.{Memory}
use Rattle.quantum_render.specs.Listening.{writer_in, HasRooms}
use Rattle.quantum_blocks.specs.Blocks.{BlockView, at, block_of, counts_in, drafts_of, frame_of, Writes}
use Rattle.quantum_render.specs.Sites.{SiteView}

-- the frames that an equation sees: those before the quantum, and of the quantum what the blocks have
abbrev pub past_of : SiteView → List BlockView → (ℕ → Frame) → ℕ → Frame
past_of s blocks before = with_drafts before s.first (sounding s.world) (counts_in s.counts) (drafts_of blocks s.counts)

abbrev pub here_of : SiteView → List BlockView → ℕ → Frame
here_of s blocks m = frame_of (sounding s.world) blocks s.counts m

-- The number of channels of a site's end is what its kind asks for, in quantum j and with these channels in the quanta before.
abbrev pub HasCount : SiteView → ℕ → (ℕ → Counts) → Kind → Type 0
HasCount s j earlier kind = counts_in s.counts s.end ≡ count_by_kind (quantum_of s.world.spec) (sounding s.world) j earlier (counts_in s.counts) kind s.end

-- the block of a site's end has the channels of the end, once for each output
abbrev pub HasLanes : SiteView → BlockView → Type 0
HasLanes s block = block.lanes ≡ outputs (kind_of s.world s.end.node.0) * counts_in s.counts s.end

-- The block of a site's end has in quantum j the values of its kind, whatever the frames before the quantum were. `blocks` are those of all ends; what stands there for its own is not asked.
pub record Renders (s : SiteView) (blocks : List BlockView) (block : BlockView) (kind : Kind) : Type 0 where
  pub lanes : HasLanes s block
  pub frames : block.frames ≡ quantum_of s.world.spec
  pub values : (j : ℕ) (earlier : ℕ → Counts) → s.first ≡ quantum_of s.world.spec * j → HasCount s j earlier kind → (before : ℕ → Frame) (o c m : ℕ) → o < outputs kind → c < counts_in s.counts s.end → m < quantum_of s.world.spec →
      at block (o * counts_in s.counts s.end + c) m ≡ value_by_kind (quantum_of s.world.spec) (s.first + m) (past_of s blocks before) (here_of s blocks m) kind s.end o c

-- The delay of a site's node keeps what its writer wrote before the quantum, and in the quantum too once the writer was rendered.
pub record IsFed (s : SiteView) (bank : DelayBank) (old : List BlockView) (before : ℕ → Frame) (longest : ℤ) (capacity : ℕ) : Type 0 where
  pub now : ℕ
  pub kept : IsKept (quantum_of s.world.spec) (delay_at bank s.end.node.0) capacity (node_at s.world s.end.node.0).attrs.birth now (writer_in (quantum_of s.world.spec) before s.end.node.0)
  pub written : (now ≡ s.first) ⊎ (now ≡ s.first + quantum_of s.world.spec)
  pub in_time : s.end.writer ≡ false → in_cycle s.world.graph.value s.end.node.0 ≡ false → now ≡ s.first + quantum_of s.world.spec
  pub born : quantum_of s.world.spec * ((node_at s.world s.end.node.0).attrs.birth / quantum_of s.world.spec) ≡ (node_at s.world s.end.node.0).attrs.birth
  pub whole : capacity ≡ delay_capacity (quantum_of s.world.spec) longest s.world.spec.rate
  -- what the equations see of the writer is what it wrote
  pub counts : (g : ℕ) → g < s.first + quantum_of s.world.spec → (past_of s old before g).counts (writer_of s.end.node.0) ≡ (writer_in (quantum_of s.world.spec) before s.end.node.0).counts (g / quantum_of s.world.spec)
  pub values : (g : ℕ) → g < now → (past_of s old before g).values (writer_of s.end.node.0) 0 ≡ (writer_in (quantum_of s.world.spec) before s.end.node.0).frames g
  -- a reader has no fewer channels than what it may ask for
  pub few : s.end.writer ≡ false → (d k : ℕ) → k < quantum_of s.world.spec → (in_cycle s.world.graph.value s.end.node.0 ≡ true → quantum_of s.world.spec ≤ d) → (node_at s.world s.end.node.0).attrs.birth + d ≤ s.first + k
      → (writer_in (quantum_of s.world.spec) before s.end.node.0).counts ((s.first + k - d) / quantum_of s.world.spec) ≤ counts_in s.counts (reader_of s.end.node.0)

-- The end of a site is not muted, and its node, if it is causal or a delay, has heard or kept the frames before the quantum.
pub record IsReadyFor (s : SiteView) (memory : Memory) (old : List BlockView) (before : ℕ → Frame) : Type 0 where
  pub unmuted : muted s.world.graph.value s.end ≡ false
  pub heard : (equation : Equation) → kind_of s.world s.end.node.0 ≡ Causal equation → IsHeard (heard_at memory.causal s.end.node.0) equation (node_at s.world s.end.node.0).attrs.birth s.first (λ g c. taken_in (before g) s.end.node.0 c)
  pub fed : (longest time : ℤ) (capacity : ℕ) → kind_of s.world s.end.node.0 ≡ Delay longest time capacity → IsFed s memory.delays old before longest capacity

-- The same, where the memory is that of the frames before the quantum.
pub record RendersWith (s : SiteView) (memory : Memory) (blocks : List BlockView) (block : BlockView) (kind : Kind) : Type 0 where
  pub lanes : HasLanes s block
  pub frames : block.frames ≡ quantum_of s.world.spec
  pub values : (j : ℕ) (earlier : ℕ → Counts) → s.first ≡ quantum_of s.world.spec * j → HasCount s j earlier kind → (before : ℕ → Frame) → IsReadyFor s memory blocks before → (o c m : ℕ) → o < outputs kind → c < counts_in s.counts s.end → m < quantum_of s.world.spec →
      at block (o * counts_in s.counts s.end + c) m ≡ value_by_kind (quantum_of s.world.spec) (s.first + m) (past_of s blocks before) (here_of s blocks m) kind s.end o c

-- The node of a site, if it is causal, hears the quantum; no other does.
pub record Listens (s : SiteView) (old : List BlockView) (memory memory' : Memory) : Type 0 where
  pub known : memory'.causal.known ≡ memory.causal.known
  pub count : length memory'.causal.nodes ≡ length memory.causal.nodes
  pub others : (n : ℕ) → (n ≡ s.end.node.0 → ⊥) → heard_at memory'.causal n ≡ heard_at memory.causal n
  pub own : (equation : Equation) → kind_of s.world s.end.node.0 ≡ Causal equation → (j : ℕ) (earlier : ℕ → Counts) → s.first ≡ quantum_of s.world.spec * j → HasCount s j earlier (Causal equation) → (before : ℕ → Frame) → IsReadyFor s memory old before →
      IsHeard (heard_at memory'.causal s.end.node.0) equation (node_at s.world s.end.node.0).attrs.birth (s.first + quantum_of s.world.spec) (λ g c. taken_in (past_of s old before g) s.end.node.0 c)

-- a writer writes in the quantum what its block has
pub record IsWritten (s : SiteView) (block : BlockView) (writer : Writer) : Type 0 where
  pub count : writer.counts (s.first / quantum_of s.world.spec) ≡ counts_in s.counts s.end
  pub frames : (c k : ℕ) → c < counts_in s.counts s.end → k < quantum_of s.world.spec → writer.frames (s.first + k) c ≡ at block c k

-- The delay of a site's node keeps the quantum where the end is its writer; no other does.
pub record Stores (s : SiteView) (block : BlockView) (bank bank' : DelayBank) : Type 0 where
  pub known : bank'.known ≡ bank.known
  pub count : length bank'.delays ≡ length bank.delays
  pub others : (n : ℕ) → (n ≡ s.end.node.0 → ⊥) → delay_at bank' n ≡ delay_at bank n
  pub read : s.end.writer ≡ false → delay_at bank' s.end.node.0 ≡ delay_at bank s.end.node.0
  pub own : s.end.writer ≡ true → (longest born : ℕ) (writer : Writer) → IsKept (quantum_of s.world.spec) (delay_at bank s.end.node.0) longest born s.first writer → IsWritten s block writer → IsKept (quantum_of s.world.spec) (delay_at bank' s.end.node.0) longest born (s.first + quantum_of s.world.spec) writer

-- The block of a site's end was written, and no other's. It has the values of the end's kind.
pub record Draws (s : SiteView) (old new : List BlockView) : Type 0 where
  pub writes : Writes old new s.end
  pub renders : Renders s old (block_of new s.end) (kind_of s.world s.end.node.0)

-- The same, where the memory is that of the frames before the quantum.
pub record DrawsWith (s : SiteView) (memory : Memory) (old new : List BlockView) : Type 0 where
  pub writes : Writes old new s.end
  pub renders : RendersWith s memory old (block_of new s.end) (kind_of s.world s.end.node.0)

-- The place of a site's end among the blocks: its block has the end's lanes and frames, and what has the values of its kind may be written there.
pub record IsPlace (s : SiteView) (blocks : List BlockView) (k : ℕ) : Type 0 where
  pub within : k < length blocks
  pub lanes : (d : BlockView) → HasLanes s (slice_index_or blocks k d)
  pub frames : (d : BlockView) → (slice_index_or blocks k d).frames ≡ quantum_of s.world.spec
  pub written : (block : BlockView) → block_of (slice_set blocks k block) s.end ≡ block
  pub draws : (block : BlockView) → Renders s blocks block (kind_of s.world s.end.node.0) → Draws s blocks (slice_set blocks k block)
  pub draws_with : (memory : Memory) (block : BlockView) → RendersWith s memory blocks block (kind_of s.world s.end.node.0) → DrawsWith s memory blocks (slice_set blocks k block)

-- An end was rendered: its block was written, and its node remembers the quantum.
pub record IsRendered (s : SiteView) (old new : List BlockView) (memory memory' : Memory) : Type 0 where
  pub draws : DrawsWith s memory old new
  pub listens : Listens s old memory memory'
  pub stores : Stores s (block_of new s.end) memory.delays memory'.delays
  pub rooms : HasRooms memory' s.world s.counts
