-- The list of ends is in order, and has each end.
use Rattle.std.proofs.Common.{ℕ, suc, ◌≡◌, ◌<◌, length, List, [], ◌∷◌, ◌++◌, Bool, true, false, cond, inl, inr, refl, arith}
use Rattle.std.specs.Prelude.{◌↔◌}
use Rattle.wa_base.specs.declared.graph_names.End.{End}
use Rattle.law_base.specs.Members.{IsIn}
use Rattle.conn_graph.specs.declared.edges.Ports.{Ports}
use Rattle.conn_graph.specs.Graph.{Connections}
use Rattle.conn_graph.specs.Ends.{writer_of, reader_of, ends_from, ends, is_delay, AreAscending}
use Rattle.conn_graph.proofs.EndLaws.{end_is, has_end, has_writer}

-- the ends of a node, before ends that its reader comes before
first_ends : (i : ℕ) (es : List End) (delays : Bool) → AreAscending (reader_of i ∷ es) → AreAscending (cond delays (writer_of i ∷ reader_of i ∷ []) (reader_of i ∷ []) ++ es)
first_ends i es true rest = (inr (refl, refl, refl), rest)
first_ends i es false rest = rest

next_ends : (i : ℕ) (es : List End) (e : End) (delays : Bool) → e.node.0 < i → AreAscending (reader_of i ∷ es) → AreAscending (e ∷ (cond delays (writer_of i ∷ reader_of i ∷ []) (reader_of i ∷ []) ++ es))
next_ends i es e true l rest = (inl l, (inr (refl, refl, refl), rest))
next_ends i es e false l rest = (inl l, rest)

-- the ends from node i on, behind an end of an earlier node
ascending_behind : (i : ℕ) (ns : List Ports) (e : End) → e.node.0 < i → AreAscending (e ∷ ends_from i ns)
ascending_behind i [] e l = tt
ascending_behind i (n ∷ ns) e l = next_ends i (ends_from (suc i) ns) e (n.is_delay) l (ascending_behind (suc i) ns (reader_of i) (omega arith))

AreAscending-ends_from : (i : ℕ) (ns : List Ports) → AreAscending (ends_from i ns)
AreAscending-ends_from i [] = tt
AreAscending-ends_from i (n ∷ ns) = first_ends i (ends_from (suc i) ns) (n.is_delay) (ascending_behind (suc i) ns (reader_of i) (omega arith))

pub AreAscending-ends : (g : Connections) → AreAscending (ends g)
unfolding ends
AreAscending-ends g = AreAscending-ends_from 0 g.nodes

has_either_end : (g : Connections) (i : ℕ) (w : Bool) → i < length g.nodes → (w ≡ true → is_delay g i ≡ true) → IsIn (let x : End = record { node = record { 0 = i }; writer = w } in x) (ends g)
has_either_end g i true l delay = has_writer g i (delay refl)
has_either_end g i false l delay = has_end g i l

-- an end is one of the graph where its node is there and, if it is a writer, that node is a delay
pub IsIn-ends : (g : Connections) (e : End) → IsIn e (ends g) ↔ ((e.node.0 < length g.nodes) × (e.writer ≡ true → is_delay g e.node.0 ≡ true))
IsIn-ends g e = (end_is g e, (λ h. has_either_end g e.node.0 e.writer h.0 h.1))
