-- Ends, arrows, cycles and muting.
use Rattle.std.specs.Prelude.{ℕ, suc, ◌≡◌, ◌<◌, ◌⊎◌, ◌↔◌, List, [], ◌∷◌, ◌++◌, Bool, true, false, not, length, ◌&&◌, ◌||◌, ◌==◌, if◌then◌else◌}
use Rattle.std.specs.List.{list_any}
use Rattle.wa_base.specs.declared.graph_names.End.{End}
use Rattle.law_base.specs.Members.{IsIn}
use Rattle.law_base.specs.Reaching.{reaches}
use Rattle.conn_graph.specs.declared.edges.Ports.{Ports}
use Rattle.conn_graph.specs.declared.edges.Target.{Target}
use Rattle.conn_graph.specs.declared.edges.Target.TheVariants.{Input, Param}
use Rattle.conn_graph.specs.Edges.{target_node}
use Rattle.conn_graph.specs.Graph.{Connections, ports_at}

-- A delay has a writer and a reader. Every other node has one end, which is no writer.
abbrev pub writer_of : ℕ → End
writer_of i = record { node = record { 0 = i }; writer = true }

abbrev pub reader_of : ℕ → End
reader_of i = record { node = record { 0 = i }; writer = false }

abbrev pub same_end : End → End → Bool
same_end a b = a.node.0 == b.node.0 && (if a.writer then b.writer else not b.writer)

abbrev pub ends_of_node : ℕ → Bool → List End
ends_of_node i is_delay = if is_delay then writer_of i ∷ reader_of i ∷ [] else reader_of i ∷ []

abbrev pub ends_from : ℕ → List Ports → List End
ends_from i [] = []
ends_from i (n ∷ ns) = ends_of_node i n.is_delay ++ ends_from (suc i) ns

-- all ends, in order of node number, the writer first
unfoldable pub ends : Connections → List End
ends g = ends_from 0 g.nodes

abbrev pub is_delay : Connections → ℕ → Bool
is_delay g i = (ports_at g i).is_delay

-- the end of a node at which an audio connection arrives: a delay's writer
abbrev pub input_end : Connections → ℕ → End
input_end g i = record { node = record { 0 = i }; writer = is_delay g i }

-- the end at which a connection arrives: one to a parameter arrives at a delay's reader
abbrev pub arrives_at : Connections → Target → End
arrives_at g (Input node input) = input_end g node.0
arrives_at g (Param param) = reader_of param.node.0

-- whether a connection leads from node a to node b
abbrev pub connects : Connections → ℕ → ℕ → Bool
connects g a b = list_any (λ e. e.from.0 == a && target_node e.to == b) g.edges

abbrev pub numbers_from : ℕ → List Ports → List ℕ
numbers_from i [] = []
numbers_from i (n ∷ ns) = i ∷ numbers_from (suc i) ns

-- whether a node reaches itself through connections, those to parameters included
unfoldable pub in_cycle : Connections → ℕ → Bool
in_cycle g i = reaches (connects g) (numbers_from 0 g.nodes) (length g.nodes) i i

-- an arrow: a connection, or from the writer to the reader of a delay that is in no cycle
unfoldable pub arrow : Connections → End → End → Bool
arrow g a b =
    list_any (λ e. same_end (reader_of e.from.0) a && same_end (arrives_at g e.to) b) g.edges
    || (a.writer && not b.writer && a.node.0 == b.node.0 && is_delay g a.node.0 && not (in_cycle g a.node.0))

-- the number of ends
unfoldable pub height : Connections → ℕ
height g = length (ends g)

-- an end is muted where it reaches itself
unfoldable pub muted : Connections → End → Bool
muted g e = reaches (arrow g) (ends g) (height g) e e

-- one end comes before another where its node has a smaller number, or where both are of one node and it is the writer
abbrev pub ComesBefore : End → End → Type 0
ComesBefore a b = (a.node.0 < b.node.0) ⊎ ((a.node.0 ≡ b.node.0) × (a.writer ≡ true) × (b.writer ≡ false))

-- each end comes before the next one
abbrev pub AreAscending : List End → Type 0
AreAscending [] = Unit {0}
AreAscending (a ∷ []) = Unit {0}
AreAscending (a ∷ b ∷ es) = ComesBefore a b × AreAscending (b ∷ es)

-- The list of ends is in order of node number, the writer first. An end stands in it where its node is there and, if it is a writer, that node is a delay.
abbrev pub EndsOrderLaw : Type 0
EndsOrderLaw = (g : Connections) → AreAscending (ends g) × ((e : End) → IsIn e (ends g) ↔ ((e.node.0 < length g.nodes) × (e.writer ≡ true → is_delay g e.node.0 ≡ true)))
