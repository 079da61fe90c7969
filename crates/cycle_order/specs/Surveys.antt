-- What a survey of a graph says: the delays in a cycle, and the muted ends.
use Rattle.std.specs.Prelude.{ℕ, ◌≡◌, ◌<◌, List, Bool, true, length, map, filter, ◌&&◌}
use Rattle.wa_base.specs.declared.graph_names.End.{End}
use Rattle.wa_base.specs.declared.graph_names.NodeId.{NodeId}
use Rattle.conn_graph.specs.Graph.{Connections}
use Rattle.conn_graph.specs.Ends.{numbers_from, ends, is_delay, in_cycle, muted}
use Rattle.cycle_order.specs.Arrows.{vertex_of}
use Rattle.cycle_order.specs.Reach.{is_marked}
use Rattle.cycle_order.specs.declared.surveys.Surveyed.{Surveyed}

abbrev pub node_id : ℕ → NodeId
node_id i = record { 0 = i }

-- the delays in a cycle, in order of node number
unfoldable pub delays_in_cycle : Connections → List NodeId
delays_in_cycle g = map node_id (filter (λ i. is_delay g i && in_cycle g i) (numbers_from 0 g.nodes))

-- the muted ends, in order of node number
unfoldable pub muted_ends : Connections → List End
muted_ends g = filter (muted g) (ends g)

pub record IsSurvey (g : Connections) (marks : Surveyed) : Type 0 where
  pub in_cycle : marks.in_cycle ≡ delays_in_cycle g
  pub muted : marks.muted ≡ muted_ends g

-- for each node, whether it reaches itself through connections
abbrev pub cycle_marks : Connections → List Bool
cycle_marks g = map (in_cycle g) (numbers_from 0 g.nodes)

-- a mark for each node, which of a delay says whether it is in a cycle
pub record TellCycles (g : Connections) (marks : List Bool) : Type 0 where
  pub number : length marks ≡ length g.nodes
  pub delays : (i : ℕ) → i < length g.nodes → is_delay g i ≡ true → is_marked marks i ≡ in_cycle g i

-- the delays among the nodes with a mark, and the ends whose vertices have one
abbrev pub marked_delays : Connections → List Bool → List NodeId
marked_delays g marks = map node_id (filter (λ i. is_delay g i && is_marked marks i) (numbers_from 0 g.nodes))

abbrev pub marked_ends : List Bool → List End → List End
marked_ends marks es = filter (λ e. is_marked marks (vertex_of e)) es
