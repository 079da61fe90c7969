-- What there is room for in a quantum: channels and lanes of each end.
use Rattle.std.specs.Prelude.{ℕ, ◌≡◌, ◌<◌, ◌≤◌, ◌*◌, ◌+◌, ◌/◌, List, length, slice_index_or}
use Rattle.wa_base.specs.Contexts.{quantum_of}
use Rattle.wa_base.specs.declared.graph_names.End.{End}
use Rattle.law_base.specs.Members.{IsIn}
use Rattle.node_table.specs.declared.rows.Channels.TheVariants.{Always}
use Rattle.node_table.specs.Kinds.{row, outputs}
use Rattle.conn_graph.specs.declared.edges.Edge.{Edge}
use Rattle.conn_graph.specs.Ends.{reader_of, ends}
use Rattle.meaning.specs.declared.world.World.{World}
use Rattle.meaning.specs.World.{kind_of}
use Rattle.quantum_blocks.specs.Blocks.{BlockView, slot, block_of, counts_in}

-- two places for each node, each with 1 to 32 channels, and with at most 32 on all outputs together; where a kind has always one, with one
pub record AreInRange (w : World) (counts : List ℕ) : Type 0 where
  pub places : length counts ≡ 2 * length w.nodes
  pub low : (k : ℕ) → k < length counts → 1 ≤ slice_index_or counts k 1
  pub high : (k : ℕ) → k < length counts → slice_index_or counts k 1 ≤ 32
  pub lanes : (k : ℕ) → k < length counts → outputs (kind_of w (k / 2)) * slice_index_or counts k 1 ≤ 32
  pub mono : (k : ℕ) → k < length counts → (row (kind_of w (k / 2))).channels ≡ Always 1 → slice_index_or counts k 1 ≡ 1

-- each end has its channels, once for each output of its node, and the frames of the world's quanta
pub record AreFit (w : World) (counts : List ℕ) (blocks : List BlockView) : Type 0 where
  pub places : length blocks ≡ 2 * length w.nodes
  pub lanes : (e : End) → IsIn e (ends w.graph.value) → (block_of blocks e).lanes ≡ outputs (kind_of w e.node.0) * counts_in counts e
  pub frames : (e : End) → IsIn e (ends w.graph.value) → (block_of blocks e).frames ≡ quantum_of w.spec

-- a connection comes from an output that its source's block has, which has so many frames
pub record IsSource (q : ℕ) (counts : List ℕ) (blocks : List BlockView) (e : Edge) : Type 0 where
  pub block : slot (reader_of e.from.0) < length blocks
  pub count : slot (reader_of e.from.0) < length counts
  pub low : 1 ≤ counts_in counts (reader_of e.from.0)
  pub high : counts_in counts (reader_of e.from.0) ≤ 32
  pub lanes : e.output * counts_in counts (reader_of e.from.0) + counts_in counts (reader_of e.from.0) ≤ (block_of blocks (reader_of e.from.0)).lanes
  pub frames : (block_of blocks (reader_of e.from.0)).frames ≡ q

-- and so does each of several connections
abbrev pub AreSources : ℕ → List ℕ → List BlockView → List Edge → Type 0
AreSources q counts blocks edges = (i : ℕ) (d : Edge) → i < length edges → IsSource q counts blocks (slice_index_or edges i d)
