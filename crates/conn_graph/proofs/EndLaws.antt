-- The ends of a graph, and the arrows of its connections.
use Rattle.std.proofs.Common.{ℕ, zero, suc, ◌≡◌, ◌+◌, ◌<◌, ◌≤◌, length, List, [], ◌∷◌, slice_index_or, Bool, true, false, not, ◌⊎◌, inl, inr, refl, sym, ◌∙◌, ap, arith, subst, eq-eqb}
use Rattle.std.specs.Prelude.{◌==◌, if◌then◌else◌}
use Rattle.std.proofs.lemmas.Bool.Decides.{nat_tests}
use Rattle.std.proofs.lemmas.List.{get_or_past}
use Rattle.wa_base.specs.declared.graph_names.End.{End}
use Rattle.wa_base.specs.declared.graph_names.ParamId.{ParamId}
use Rattle.law_base.specs.Members.{IsIn}
use Rattle.law_base.proofs.Members.{list_any-IsIn, IsIn-filter, IsIn-append, IsIn-append_first, IsIn-append_second}
use Rattle.law_base.proofs.Tests.{or_first, or_second, and_both, and_parts}
use Rattle.conn_graph.specs.declared.edges.Edge.{Edge}
use Rattle.conn_graph.specs.declared.edges.Ports.{Ports}
use Rattle.conn_graph.specs.declared.edges.Target.{Target}
use Rattle.conn_graph.specs.declared.edges.Target.TheVariants.{Input, Param}
use Rattle.conn_graph.specs.Edges.{is_input, is_param}
use Rattle.conn_graph.specs.Graph.{Connections, no_ports, edges_to_input, edges_to_param}
use Rattle.conn_graph.specs.Ends.{writer_of, reader_of, same_end, ends_from, ends, is_delay, input_end, arrives_at, in_cycle, arrow}

-- what an end of the nodes from i on is
pub record IsEndFrom (i : ℕ) (nodes : List Ports) (e : End) : Type 0 where
  pub place : ℕ
  pub node : e.node.0 ≡ i + place
  pub below : place < length nodes
  pub delay : e.writer ≡ true → (slice_index_or nodes place no_ports).is_delay ≡ true

first_end : (i : ℕ) (n : Ports) (ns : List Ports) (e : End) (b : Bool) → n.is_delay ≡ b
    → IsIn e (if b then writer_of i ∷ reader_of i ∷ [] else reader_of i ∷ []) → IsEndFrom i (n ∷ ns) e
first_end i n ns e true delay (inl same) = record { place = 0; node = ap (λ (x : End). x.node.0) same ∙ omega arith; below = omega arith; delay = λ _. delay }
first_end i n ns e true delay (inr (inl same)) = record { place = 0; node = ap (λ (x : End). x.node.0) same ∙ omega arith; below = omega arith; delay = λ _. delay }
first_end i n ns e true delay (inr (inr h)) = absurd h
first_end i n ns e false delay (inl same) = record { place = 0; node = ap (λ (x : End). x.node.0) same ∙ omega arith; below = omega arith; delay = λ g. let not_writer = ap (λ (x : End). x.writer) same in absurd cc }
first_end i n ns e false delay (inr h) = absurd h

pub end_from : (i : ℕ) (ns : List Ports) (e : End) → IsIn e (ends_from i ns) → IsEndFrom i ns e
end_from i [] e h = absurd h
end_from i (n ∷ ns) e h = elim (IsIn-append (if n.is_delay then writer_of i ∷ reader_of i ∷ [] else reader_of i ∷ []) (ends_from (suc i) ns) e h) [
  | inl k ↦ first_end i n ns e (n.is_delay) refl k
  | inr k ↦ let r = end_from (suc i) ns e k in record { place = suc r.place; node = r.node ∙ omega arith; below = let l = r.below in omega arith; delay = r.delay }
]

-- an end is of a node that there is, and a writer is of a delay
pub end_is : (g : Connections) (e : End) → IsIn e (ends g) → (e.node.0 < length g.nodes) × (e.writer ≡ true → is_delay g e.node.0 ≡ true)
unfolding ends
end_is g e h =
    let r = end_from 0 g.nodes e h in
    let here : e.node.0 ≡ r.place = r.node ∙ omega arith in
    let below : e.node.0 < length g.nodes = let l = r.below in omega arith in
    (below, λ t. subst (λ k. (slice_index_or g.nodes k no_ports).is_delay ≡ true) (sym here) (r.delay t))

has_end_from : (i k : ℕ) (ns : List Ports) → k < length ns → IsIn (reader_of (i + k)) (ends_from i ns)
has_end_from i k [] l = absurd (omega arith)
has_end_from i zero (n ∷ ns) l = IsIn-append_first _ _ _ (here (n.is_delay))
  where
    here : (b : Bool) → IsIn (reader_of (i + 0)) (if b then writer_of i ∷ reader_of i ∷ [] else reader_of i ∷ [])
    here true = inr (inl (ap reader_of (omega arith)))
    here false = inl (ap reader_of (omega arith))
has_end_from i (suc k) (n ∷ ns) l = IsIn-append_second _ _ _ (subst (λ j. IsIn (reader_of j) (ends_from (suc i) ns)) (omega arith) (has_end_from (suc i) k ns (omega arith)))

pub has_end : (g : Connections) (i : ℕ) → i < length g.nodes → IsIn (reader_of i) (ends g)
unfolding ends
has_end g i l = subst (λ j. IsIn (reader_of j) (ends_from 0 g.nodes)) (omega arith) (has_end_from 0 i g.nodes l)

has_writer_from : (i k : ℕ) (ns : List Ports) → k < length ns → (slice_index_or ns k no_ports).is_delay ≡ true → IsIn (writer_of (i + k)) (ends_from i ns)
has_writer_from i k [] l d = absurd (omega arith)
has_writer_from i zero (n ∷ ns) l d = IsIn-append_first _ _ _ (here (n.is_delay) d)
  where
    here : (b : Bool) → b ≡ true → IsIn (writer_of (i + 0)) (if b then writer_of i ∷ reader_of i ∷ [] else reader_of i ∷ [])
    here true d = inl (ap writer_of (omega arith))
    here false d = absurd cc
has_writer_from i (suc k) (n ∷ ns) l d = IsIn-append_second _ _ _ (subst (λ j. IsIn (writer_of j) (ends_from (suc i) ns)) (omega arith) (has_writer_from (suc i) k ns (omega arith) d))

-- a delay is a node that there is
pub delay_below : (g : Connections) (i : ℕ) → is_delay g i ≡ true → i < length g.nodes
delay_below g i d = elim (below_or_past i (length g.nodes)) [
  | inl l ↦ l
  | inr l ↦ let none : is_delay g i ≡ false = ap (λ (x : Ports). x.is_delay) (get_or_past g.nodes i no_ports l) in absurd cc
]
  where
    below_or_past : (i n : ℕ) → (i < n) ⊎ (n ≤ i)
    below_or_past i n = grind arith

pub has_writer : (g : Connections) (i : ℕ) → is_delay g i ≡ true → IsIn (writer_of i) (ends g)
unfolding ends
has_writer g i d = subst (λ j. IsIn (writer_of j) (ends_from 0 g.nodes)) (omega arith) (has_writer_from 0 i g.nodes (delay_below g i d) d)

pub nat_same : (a b : ℕ) → (a == b) ≡ true → a ≡ b
nat_same a b h = grind (arith, nat_tests)

pub same_nat : (a : ℕ) → (a == a) ≡ true
same_nat a = eq-eqb a a refl

pub same_end-refl : (a : End) → same_end a a ≡ true
same_end-refl a = and_both _ _ (same_nat a.node.0) (by_bool a.writer)
  where
    by_bool : (b : Bool) → (if b then b else not b) ≡ true
    by_bool true = refl
    by_bool false = refl

same_bools : (a b : Bool) → (if a then b else not b) ≡ true → a ≡ b
same_bools true true h = refl
same_bools true false h = absurd cc
same_bools false true h = absurd cc
same_bools false false h = refl

pub same_end_is : (a b : End) → same_end a b ≡ true → a ≡ b
same_end_is a b h =
    let parts = and_parts (a.node.0 == b.node.0) (if a.writer then b.writer else not b.writer) h in
    let node : a.node.0 ≡ b.node.0 = nat_same a.node.0 b.node.0 parts.0 in
    let writer : a.writer ≡ b.writer = same_bools a.writer b.writer parts.1 in
    ap (λ n. let x : End = record { node = record { 0 = n }; writer = a.writer } in x) node ∙ ap (λ t. let x : End = record { node = b.node; writer = t } in x) writer

-- a connection is an arrow to where it arrives
pub edge_arrow : (g : Connections) (x : Edge) → IsIn x g.edges → arrow g (reader_of x.from.0) (arrives_at g x.to) ≡ true
unfolding arrow
edge_arrow g x h = or_first _ _ (list_any-IsIn _ g.edges x h (and_both _ _ (same_end-refl (reader_of x.from.0)) (same_end-refl (arrives_at g x.to))))

input_arrives : (g : Connections) (n i : ℕ) (t : Target) → is_input n i t ≡ true → arrives_at g t ≡ input_end g n
input_arrives g n i (Input node input) h = ap (input_end g) (nat_same node.0 n (and_parts _ _ h).0)
input_arrives g n i (Param param) h = absurd cc

param_arrives : (g : Connections) (p : ParamId) (t : Target) → is_param p t ≡ true → arrives_at g t ≡ reader_of p.node.0
param_arrives g p (Input node input) h = absurd cc
param_arrives g p (Param param) h = ap reader_of (nat_same param.node.0 p.node.0 (and_parts _ _ h).0)

-- a connection to an input is an arrow to the end that has the input
pub input_arrow : (g : Connections) (n i : ℕ) (x : Edge) → IsIn x (edges_to_input g n i) → IsIn x g.edges × (arrow g (reader_of x.from.0) (input_end g n) ≡ true)
input_arrow g n i x h =
    let k = IsIn-filter _ g.edges x h in
    (k.0, subst (λ b. arrow g (reader_of x.from.0) b ≡ true) (input_arrives g n i x.to k.1) (edge_arrow g x k.0))

pub param_arrow : (g : Connections) (p : ParamId) (x : Edge) → IsIn x (edges_to_param g p) → IsIn x g.edges × (arrow g (reader_of x.from.0) (reader_of p.node.0) ≡ true)
param_arrow g p x h =
    let k = IsIn-filter _ g.edges x h in
    (k.0, subst (λ b. arrow g (reader_of x.from.0) b ≡ true) (param_arrives g p x.to k.1) (edge_arrow g x k.0))

-- from writer to reader, outside cycles
pub writer_arrow : (g : Connections) (i : ℕ) → is_delay g i ≡ true → in_cycle g i ≡ false → arrow g (writer_of i) (reader_of i) ≡ true
unfolding arrow
writer_arrow g i d c = or_second _ _ (and_both _ _ (and_both _ _ (and_both _ _ refl (same_nat i)) d) (ap not c))
