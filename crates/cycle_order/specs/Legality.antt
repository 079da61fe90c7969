-- Whether a list of ends is a legal order, as a test that goes along the list.
use Rattle.std.specs.Prelude.{ℕ, ◌+◌, List, [], ◌∷◌, ◌++◌, length, filter, Bool, not, ◌&&◌, ◌||◌, ◌==◌, nat_lt, if◌then◌else◌}
use Rattle.std.specs.List.{list_any, list_all}
use Rattle.wa_base.specs.declared.graph_names.End.{End}
use Rattle.conn_graph.specs.declared.edges.Edge.{Edge}
use Rattle.conn_graph.specs.Edges.{target_node}
use Rattle.conn_graph.specs.Graph.{Connections}
use Rattle.conn_graph.specs.Ends.{writer_of, reader_of, same_end, ends, is_delay, arrives_at, in_cycle}

abbrev pub has : List End → End → Bool
has es e = list_any (λ x. same_end x e) es

-- an end that no other has to wait for: it is muted, or it is placed
abbrev pub is_settled : List End → List End → End → Bool
is_settled muted placed e = has muted e || has placed e

abbrev pub is_end : Connections → End → Bool
is_end g e = nat_lt e.node.0 (length g.nodes) && (not e.writer || is_delay g e.node.0)

abbrev pub edges_into : Connections → ℕ → List Edge
edges_into g i = filter (λ e. target_node e.to == i) g.edges

-- whether the source of a connection is settled, where the connection arrives at this end
abbrev pub source_settled : Connections → List End → List End → End → Edge → Bool
source_settled g muted placed e x = not (same_end (arrives_at g x.to) e) || is_settled muted placed (reader_of x.from.0)

-- whether the writer is settled, where an arrow leads from it to this reader
abbrev pub writer_settled : Connections → List End → List End → End → Bool
writer_settled g muted placed e = e.writer || not (is_delay g e.node.0 && not (in_cycle g e.node.0)) || is_settled muted placed (writer_of e.node.0)

-- whether an end may stand behind those that are placed
abbrev pub can_follow : Connections → List End → List End → End → Bool
can_follow g muted placed e =
    is_end g e && not (is_settled muted placed e) && writer_settled g muted placed e
    && list_all (source_settled g muted placed e) (edges_into g e.node.0)

-- the looks that the test takes at connections: at those to the end's node and at their end, where there is such an end and it is not settled
abbrev pub looks_for : Connections → List End → List End → End → ℕ
looks_for g muted placed e = if is_end g e && not (is_settled muted placed e) then length (edges_into g e.node.0) + 1 else 0

abbrev pub is_legal_from : Connections → List End → List End → List End → Bool
is_legal_from g muted placed [] = list_all (is_settled muted placed) (ends g)
is_legal_from g muted placed (e ∷ es) = can_follow g muted placed e && is_legal_from g muted (placed ++ e ∷ []) es
