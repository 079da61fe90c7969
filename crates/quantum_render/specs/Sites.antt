-- An end in its world, at a quantum.
use Rattle.std.specs.Prelude.{ℕ, ◌≡◌, ◌≤◌, ◌^◌, ◌*◌, ◌/◌, List, [], ◌∷◌, true}
use Rattle.wa_base.specs.Contexts.{quantum_of}
use Rattle.wa_base.specs.declared.graph_names.End.{End}
use Rattle.law_base.specs.Members.{IsIn}
use Rattle.conn_graph.specs.declared.edges.Edge.{Edge}
use Rattle.conn_graph.specs.Ends.{reader_of, ends}
use Rattle.automation.specs.Levels.{LevelView, AreLevels}
use Rattle.meaning.specs.declared.world.World.{World}
use Rattle.meaning.specs.Validity.{IsValid}
use Rattle.quantum_blocks.specs.declared.gathering.Inlet.{Inlet}
use Rattle.quantum_blocks.specs.Blocks.{counts_in}
use Rattle.quantum_blocks.specs.Connections.{into as leads_into, leads_to}
use Rattle.quantum_blocks.specs.Fits.{AreInRange}
use Rattle.quantum_render.specs.declared.site.Quantum.{Quantum}

-- what contracts see of a site
pub record SiteView : Type 0 where
  pub world : World
  pub end : End
  -- the connections that lead to the end's node
  pub into : List Edge
  -- the channels of each end
  pub counts : List ℕ
  -- the level of each node's parameter
  pub levels : List LevelView
  -- the first frame of the quantum
  pub first : ℕ

-- the site of an end in a quantum, with the connections that lead to the end's node
abbrev pub site_in : Quantum → End → SiteView
site_in q e = record { world = q.world.now; end = e; into = leads_into q.world.now.graph.value e.node.0; counts = q.counts.now; levels = q.levels.now; first = q.first }

-- a quantum of q frames begins at a multiple of them
pub record IsBegun (q begin : ℕ) : Type 0 where
  pub whole : q * (begin / q) ≡ begin
  pub time : begin ≤ 2 ^ 62

-- what holds of every quantum
pub record IsQuantum (w : World) (counts : List ℕ) (automated : List LevelView) (begin : ℕ) : Type 0 where
  pub valid : IsValid w
  pub range : AreInRange w counts
  pub begun : IsBegun (quantum_of w.spec) begin
  pub levels : AreLevels (quantum_of w.spec) w.params.items begin automated

-- what holds of every site
pub record IsSite (w : World) (e : End) (edges : List Edge) (counts : List ℕ) (automated : List LevelView) (begin : ℕ) : Type 0 where
  pub quantum : IsQuantum w counts automated begin
  pub there : IsIn e (ends w.graph.value)
  pub into : edges ≡ leads_into w.graph.value e.node.0

-- A connection is the only one to a node, leads to the inlet and has its number of channels.
pub record IsLone (s : SiteView) (inlet : Inlet) (edge : Edge) : Type 0 where
  pub only : leads_into s.world.graph.value s.end.node.0 ≡ edge ∷ []
  pub leads : leads_to inlet.target edge ≡ true
  pub count : counts_in s.counts (reader_of edge.from.0) ≡ inlet.count
