-- Walks over the connections of one node.
use Rattle.std.specs.Prelude.{ℕ, suc, ◌≡◌, ◌≤◌, ◌<◌, ◌-◌, ◌^◌, ◌↔◌, nat_lt, List, [], ◌∷◌, map, filter, ◌==◌, if◌then◌else◌, Option, None, Some, slice_get, slice_index_or}
use Rattle.law_base.specs.Members.{IsIn, AreDistinct}
use Rattle.conn_graph.specs.declared.edges.Edge.{Edge}
use Rattle.conn_graph.specs.Edges.{target_node}
use Rattle.conn_graph.specs.Graph.{Connections}

-- each step of a walk gives a cell and the connection in it
abbrev pub Walk : Type 0
Walk = List (ℕ × Edge)

-- What contracts see of a graph: its value, for each node the walk from it and the walk to it, for how many further nodes there is room, and how often it was edited.
-- The cells are no part of the value: two graphs of one value may have other cells.
pub record GraphView : Type 0 where
  pub value : Connections
  pub out_walks : List Walk
  pub in_walks : List Walk
  pub room : ℕ
  pub edits : ℕ

-- the walk from, and to, a node
abbrev pub out_walk : GraphView → ℕ → Walk
out_walk g node = slice_index_or g.out_walks node []

abbrev pub in_walk : GraphView → ℕ → Walk
in_walk g node = slice_index_or g.in_walks node []

-- the step behind a cell
abbrev pub behind : Walk → ℕ → Option (ℕ × Edge)
behind [] cell = None
behind (step ∷ steps) cell = if step.0 == cell then slice_get steps 0 else behind steps cell

-- the first step, or the one behind a cell
abbrev pub next_step : Walk → Option ℕ → Option (ℕ × Edge)
next_step walk None = slice_get walk 0
next_step walk (Some cell) = behind walk cell

-- the start of a walk, or a cell of it
abbrev pub IsOnWalk : Walk → Option ℕ → Type 0
IsOnWalk walk None = Unit {0}
IsOnWalk walk (Some cell) = IsIn cell (map (λ step. step.0) walk)

-- a node's connections in the graph's order, in cells of their own
pub record IsOutWalk (g : Connections) (node : ℕ) (walk : Walk) : Type 0 where
  pub edges : map (λ step. step.1) walk ≡ filter (λ e. e.from.0 == node) g.edges
  pub cells : AreDistinct (map (λ step. step.0) walk)

-- each connection to a node once, in cells of their own; of their order nothing is said
pub record IsInWalk (g : Connections) (node : ℕ) (walk : Walk) : Type 0 where
  pub edges : (e : Edge) → IsIn e (map (λ step. step.1) walk) ↔ IsIn e (filter (λ x. target_node x.to == node) g.edges)
  pub once : AreDistinct (map (λ step. step.1) walk)
  pub cells : AreDistinct (map (λ step. step.0) walk)

-- the graph is as before, but for its room, of which it loses none
pub record LeavesGraph (old new : GraphView) : Type 0 where
  pub value : new.value ≡ old.value
  pub out_walks : new.out_walks ≡ old.out_walks
  pub in_walks : new.in_walks ≡ old.in_walks
  pub room : old.room ≤ new.room
  pub edits : new.edits ≡ old.edits

-- the number of edits after one more: it rises by one, and stops at the greatest number
abbrev pub one_more : ℕ → ℕ
one_more edits = if nat_lt edits (2 ^ 64 - 1) then suc edits else edits

-- A graph became another by edits that are counted: the number of edits does not fall, and where it is the old one, and below the greatest number, nothing was edited.
pub record CountsEdits (old new : GraphView) : Type 0 where
  pub low : old.edits ≤ new.edits
  pub same : new.edits ≡ old.edits → old.edits < 2 ^ 64 - 1 → new.value ≡ old.value
