-- Ends that are idle: up to a frame, what each carries in a quantum is what its block has already.
use Rattle.std.specs.Prelude.{ℕ, ℤ, ◌+◌, ◌≡◌, ◌<◌, ◌≤◌, ◌⊎◌, List, [], ◌∷◌, Bool, true, false, All, slice_index_or, FitsSigned, if◌then◌else◌}
use Rattle.std.specs.Int.{w32}
use Rattle.wa_base.specs.Contexts.{quantum_of}
use Rattle.wa_base.specs.Numbers.{scale}
use Rattle.wa_base.specs.declared.graph_names.End.{End}
use Rattle.wa_base.specs.declared.graph_names.ParamId.{ParamId}
use Rattle.wa_base.specs.declared.graph_names.ParamName.TheVariants as name
use Rattle.law_base.specs.Members.{IsIn}
use Rattle.node_table.specs.declared.kinds.Kind.{Kind}
use Rattle.node_table.specs.declared.kinds.Kind.TheVariants.{Destination, Constant, Buffer, Gain, Splitter, Merger}
use Rattle.conn_graph.specs.declared.edges.Edge.{Edge}
use Rattle.conn_graph.specs.declared.edges.Target.TheVariants.{Input}
use Rattle.conn_graph.specs.Ends.{reader_of, ends, muted}
use Rattle.meaning.specs.declared.world.World.{World}
use Rattle.meaning.specs.World.{sounding, kind_of, sounds_at, param_id, intrinsic_value, is_k_rate}
use Rattle.quantum_blocks.specs.Blocks.{BlockView, slot, at, carried, block_of, counts_in, IsSilent}
use Rattle.quantum_blocks.specs.Connections.{into, leads_to}

-- what contracts see of what is known of idle ends: up to which frame, and a mark for each place
pub record RestView : Type 0 where
  pub until : ℕ
  pub marks : List Bool

abbrev pub IsMarked : List Bool → End → Type 0
IsMarked marks e = slice_index_or marks (slot e) false ≡ true

-- the ends with a mark have the blocks that they had
abbrev pub KeepBlocks : World → List Bool → List BlockView → List BlockView → Type 0
KeepBlocks w marks old new = (e : End) → IsIn e (ends w.graph.value) → IsMarked marks e → block_of new e ≡ block_of old e

-- a source does not sound in the frames from one up to another
abbrev pub IsUnheard : World → ℕ → ℕ → ℕ → Type 0
IsUnheard w node from until = (frame : ℕ) → from ≤ frame → frame < until → sounds_at w node frame ≡ false

-- ---- silence

-- An end carries silence in these frames where all that it hears is silent, by the kind of its node: a source does not sound, and one that plays a buffer has one channel. What goes on after its input fell silent is never idle.
abbrev pub IsQuiet : World → List ℕ → ℕ → ℕ → End → Kind → Type 0
IsQuiet w counts from until e Destination = Unit {0}
IsQuiet w counts from until e (Constant offset) = IsUnheard w e.node.0 from until
IsQuiet w counts from until e (Buffer rate) = IsUnheard w e.node.0 from until × (counts_in counts e ≡ 1)
IsQuiet w counts from until e (Gain gain) = Unit {0}
IsQuiet w counts from until e (Splitter outputs) = Unit {0}
IsQuiet w counts from until e (Merger inputs) = Unit {0}
IsQuiet w counts from until e other = ⊥

-- what a connection brings stays silent
pub record BringsSilence (marks : List Bool) (blocks : List BlockView) (x : Edge) : Type 0 where
  pub marked : IsMarked marks (reader_of x.from.0)
  pub silent : IsSilent blocks (reader_of x.from.0)

-- an end is quiet, it hears silence, and its block is silent
pub record StaysSilent (w : World) (counts : List ℕ) (from until : ℕ) (marks : List Bool) (blocks : List BlockView) (e : End) : Type 0 where
  pub quiet : IsQuiet w counts from until e (kind_of w e.node.0)
  pub heard : All (BringsSilence marks blocks) (into w.graph.value e.node.0)
  pub silent : IsSilent blocks e

-- ---- the same value at all frames

-- the intrinsic value of a parameter is the same in each quantum from one frame up to another
abbrev pub HasLevel : World → ParamId → ℕ → ℕ → ℤ → Type 0
HasLevel w id from until value = (first m : ℕ) → from ≤ first → first + quantum_of w.spec ≤ until → m < quantum_of w.spec
    → intrinsic_value (sounding w) id (first + (if is_k_rate (sounding w) id then 0 else m)) ≡ value

-- A constant source sounds at all these frames, nothing leads to its offset, and its block has that.
pub record IsStillSource (w : World) (from until : ℕ) (blocks : List BlockView) (e : End) : Type 0 where
  pub value : ℤ
  pub fits : FitsSigned w32 value
  pub sounds : (frame : ℕ) → from ≤ frame → frame < until → sounds_at w e.node.0 frame ≡ true
  pub alone : into w.graph.value e.node.0 ≡ []
  pub level : HasLevel w (param_id e.node.0 name.Offset) from until value
  pub held : (lane m : ℕ) → lane < (block_of blocks e).lanes → m < (block_of blocks e).frames → at (block_of blocks e) lane m ≡ value

-- A gain hears one connection, from an end with a mark that has as many channels, and its block has what that end's has, multiplied.
pub record IsStillGain (w : World) (counts : List ℕ) (from until : ℕ) (marks : List Bool) (blocks : List BlockView) (e : End) : Type 0 where
  pub gain : ℤ
  pub fits : FitsSigned w32 gain
  pub edge : Edge
  pub only : into w.graph.value e.node.0 ≡ edge ∷ []
  pub leads : leads_to (Input (record { 0 = e.node.0 }) 0) edge ≡ true
  pub marked : IsMarked marks (reader_of edge.from.0)
  pub count : counts_in counts (reader_of edge.from.0) ≡ counts_in counts e
  pub level : HasLevel w (param_id e.node.0 name.Gain) from until gain
  pub scaled : (c m : ℕ) → c < counts_in counts e → m < quantum_of w.spec → at (block_of blocks e) c m ≡ scale (carried (block_of blocks (reader_of edge.from.0)) (counts_in counts e) edge.output m c) gain
  pub fit : (c m : ℕ) → c < counts_in counts e → m < quantum_of w.spec → FitsSigned w32 (carried (block_of blocks (reader_of edge.from.0)) (counts_in counts e) edge.output m c)

-- an end carries the same value in these frames, by the kind of its node
abbrev pub IsStill : World → List ℕ → ℕ → ℕ → List Bool → List BlockView → End → Kind → Type 0
IsStill w counts from until marks blocks e (Constant offset) = IsStillSource w from until blocks e
IsStill w counts from until marks blocks e (Gain gain) = IsStillGain w counts from until marks blocks e
IsStill w counts from until marks blocks e other = ⊥

-- ---- idle ends

-- An end is idle in these frames: it stays silent, or carries the same value at all of them.
pub record IsIdle (w : World) (counts : List ℕ) (from until : ℕ) (marks : List Bool) (blocks : List BlockView) (e : End) : Type 0 where
  pub unmuted : muted w.graph.value e ≡ false
  pub why : StaysSilent w counts from until marks blocks e ⊎ IsStill w counts from until marks blocks e (kind_of w e.node.0)

-- the ends that have a mark are idle
abbrev pub AreIdle : World → List ℕ → ℕ → ℕ → List Bool → List BlockView → Type 0
AreIdle w counts from until marks blocks = (e : End) → IsIn e (ends w.graph.value) → IsMarked marks e → IsIdle w counts from until marks blocks e
