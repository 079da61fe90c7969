-- How the connections are kept: each in a cell, which stands in the list of its source and in that of its target.
use Rattle.std.specs.Prelude.{ℕ, zero, suc, ◌≡◌, ◌<◌, ◌≤◌, ◌-◌, ◌↔◌, List, [], ◌∷◌, ◌++◌, map, length, slice_index_or, ◌==◌, if◌then◌else◌, Option, None, Some, option_map, is_some}
use Rattle.slab.specs.Slab.{Slab, get, slab_len}
use Rattle.law_base.specs.Members.{IsIn, AreDistinct}
use Rattle.conn_graph.specs.declared.cells.Cell.{Cell}
use Rattle.conn_graph.specs.declared.cells.Ends.{Ends}
use Rattle.conn_graph.specs.declared.cells.Links.{Links}
use Rattle.conn_graph.specs.declared.cells.Node.{Node}
use Rattle.conn_graph.specs.declared.cells.Side.{Side}
use Rattle.conn_graph.specs.declared.cells.Side.TheVariants.{Out, In}
use Rattle.conn_graph.specs.declared.edges.Edge.{Edge}
use Rattle.conn_graph.specs.declared.edges.Ports.{Ports}
use Rattle.conn_graph.specs.Edges.{target_node}
use Rattle.conn_graph.specs.Graph.{Connections, IsGraph, no_ports}
use Rattle.conn_graph.specs.Walks.{Walk, GraphView}

-- ---- a cell and a node, on one side

-- the node in whose list a connection stands
abbrev pub end_of : Side → Edge → ℕ
end_of Out e = e.from.0
end_of In e = target_node e.to

abbrev pub links_of : Side → Cell → Links
links_of Out c = c.out
links_of In c = c.into

abbrev pub with_links : Side → Links → Cell → Cell
with_links Out links c = record c { out = links }
with_links In links c = record c { into = links }

abbrev pub with_before : Side → Option ℕ → Cell → Cell
with_before side before c = with_links side (record (links_of side c) { before = before }) c

abbrev pub with_behind : Side → Option ℕ → Cell → Cell
with_behind side behind c = with_links side (record (links_of side c) { behind = behind }) c

abbrev pub ends_of : Side → Node → Ends
ends_of Out n = n.out
ends_of In n = n.into

abbrev pub no_cells : Ends
no_cells = record { first = None; last = None; count = 0 }

abbrev pub node_of : Ports → Node
node_of ports = record { ports = ports; out = no_cells; into = no_cells }

abbrev pub node_at : List Node → ℕ → Node
node_at nodes i = slice_index_or nodes i (node_of no_ports)

-- the links of a cell behind the last one
abbrev pub end_links : Ends → Links
end_links ends = record { before = ends.last; behind = None }

-- a list with one more cell at its end
abbrev pub longer : Ends → ℕ → Ends
longer ends key = record { first = if is_some ends.first then ends.first else Some key; last = Some key; count = suc ends.count }

-- a list without a cell that had these links
abbrev pub shorter : Ends → Links → Ends
shorter ends links = record {
  first = if is_some links.before then ends.first else links.behind;
  last = if is_some links.behind then ends.last else links.before;
  count = ends.count - 1;
}

-- what is at a key after the cell at one key changed, if there is such a key
abbrev pub changed : {X : Type 0} → (X → X) → Option ℕ → ℕ → Option X → Option X
changed f None k c = c
changed f (Some key) k c = if k == key then option_map f c else c

-- ---- one list

-- the connection of a cell, and its links on a side
abbrev pub slot : Side → (ℕ → Option Cell) → ℕ → Option (Edge × Links)
slot side at key = option_map (λ c. (c.edge, links_of side c)) (at key)

abbrev pub edge_at : (ℕ → Option Cell) → ℕ → Option Edge
edge_at at key = option_map (λ c. c.edge) (at key)

abbrev pub keys : Walk → List ℕ
keys walk = map (λ step. step.0) walk

abbrev pub edges_of : Walk → List Edge
edges_of walk = map (λ step. step.1) walk

-- the first and the last cell of a walk, and what there is where it has none
abbrev pub first_of : Walk → Option ℕ → Option ℕ
first_of [] behind = behind
first_of (step ∷ steps) behind = Some step.0

abbrev pub last_of : Option ℕ → Walk → Option ℕ
last_of before [] = before
last_of before (step ∷ steps) = last_of (Some step.0) steps

-- Each cell of the walk has its connection, and links to the cell before it and to the one behind it.
abbrev pub IsLinked : (ℕ → Option (Edge × Links)) → Option ℕ → Walk → Option ℕ → Type 0
IsLinked at before [] behind = Unit {0}
IsLinked at before (step ∷ steps) behind =
    (at step.0 ≡ Some (step.1, record { before = before; behind = first_of steps behind })) × IsLinked at (Some step.0) steps behind

-- what stands at the ends of a list, for its walk
pub record IsList (at : ℕ → Option (Edge × Links)) (end : Edge → ℕ) (node : ℕ) (ends : Ends) (walk : Walk) : Type 0 where
  pub first : ends.first ≡ first_of walk None
  pub last : ends.last ≡ last_of None walk
  pub count : ends.count ≡ length walk
  pub linked : IsLinked at None walk None
  pub once : AreDistinct (keys walk)
  pub own : (step : ℕ × Edge) → IsIn step walk → end step.1 ≡ node

-- so many cells, forward from a first one
abbrev pub step_then : (Option ℕ → Walk) → ℕ → Option (Edge × Links) → Walk
step_then rest key None = []
step_then rest key (Some slot) = (key, slot.0) ∷ rest slot.1.behind

abbrev pub along : (ℕ → Option (Edge × Links)) → ℕ → Option ℕ → Walk
along at zero first = []
along at (suc n) None = []
along at (suc n) (Some key) = step_then (along at n) key (at key)

-- ---- all lists

abbrev pub walk_at : List Walk → ℕ → Walk
walk_at walks node = slice_index_or walks node []

-- for each node, forward from its first cell as many as are counted
abbrev pub walks_of : Side → List Node → (ℕ → Option Cell) → List Walk
walks_of side nodes at = map (λ n. along (slot side at) (ends_of side n).count (ends_of side n).first) nodes

pub record AreListsOf (side : Side) (nodes : List Node) (at : ℕ → Option Cell) (walks : List Walk) : Type 0 where
  pub count : length walks ≡ length nodes
  pub lists : (i : ℕ) → i < length nodes → IsList (slot side at) (end_of side) i (ends_of side (node_at nodes i)) (walk_at walks i)

-- the connections of walks, one walk after another
abbrev pub edges_in : List Walk → List Edge
edges_in [] = []
edges_in (walk ∷ walks) = edges_of walk ++ edges_in walks

-- Each cell is in exactly the two lists of its ends.
pub record AreInBoth (nodes : List Node) (cells : Slab Cell) (outs ins : List Walk) : Type 0 where
  pub out : AreListsOf Out nodes (get cells) outs
  pub into : AreListsOf In nodes (get cells) ins
  pub each : (key : ℕ) (e : Edge) → edge_at (get cells) key ≡ Some e → IsIn (key, e) (walk_at outs (end_of Out e)) × IsIn (key, e) (walk_at ins (end_of In e))
  pub held : slab_len cells ≡ length (edges_in outs)

abbrev pub AreLists : List Node → Slab Cell → Type 0
AreLists nodes cells = AreInBoth nodes cells (walks_of Out nodes (get cells)) (walks_of In nodes (get cells))

-- ---- what is seen of the lists

-- The ports of the nodes, the walk from each node and to each node, and for how many further nodes there is room.
pub record Threads : Type 0 where
  pub nodes : List Ports
  pub outs : List Walk
  pub ins : List Walk
  pub room : ℕ

abbrev pub threads_of : List Node → (ℕ → Option Cell) → ℕ → Threads
threads_of nodes at room = record { nodes = map (λ n. n.ports) nodes; outs = walks_of Out nodes at; ins = walks_of In nodes at; room = room }

abbrev pub IsEmpty : Threads → Type 0
IsEmpty t = (t.nodes ≡ []) × (t.outs ≡ []) × (t.ins ≡ [])

-- nothing but the room changed, and it did not shrink
abbrev pub SameThreads : Threads → Threads → Type 0
SameThreads old new = (new ≡ record old { room = new.room }) × (old.room ≤ new.room)

-- the walk of a node on a side
abbrev pub thread : Side → Threads → ℕ → Walk
thread Out t node = walk_at t.outs node
thread In t node = walk_at t.ins node

-- A connection with its cell is on the walk from its source and on that to its target, and on no other.
pub record AreThreads (t : Threads) : Type 0 where
  pub outs : length t.outs ≡ length t.nodes
  pub ins : length t.ins ≡ length t.nodes
  pub from : (node : ℕ) (step : ℕ × Edge) → IsIn step (walk_at t.outs node) → step.1.from.0 ≡ node
  pub to : (node : ℕ) (step : ℕ × Edge) → IsIn step (walk_at t.ins node) ↔ ((target_node step.1.to ≡ node) × IsIn step (walk_at t.outs step.1.from.0))
  pub out_cells : (node : ℕ) → AreDistinct (keys (walk_at t.outs node))
  pub in_cells : (node : ℕ) → AreDistinct (keys (walk_at t.ins node))

-- ---- what a graph is to those who call it

abbrev pub connections_of : Threads → Connections
connections_of t = record { nodes = t.nodes; edges = edges_in t.outs }

abbrev pub view_of : Threads → ℕ → GraphView
view_of t edits = record { value = connections_of t; out_walks = t.outs; in_walks = t.ins; room = t.room; edits = edits }

pub record IsWhole (t : Threads) : Type 0 where
  pub graph : IsGraph (connections_of t)
  pub threads : AreThreads t
