-- A writer is never muted.
use Rattle.std.proofs.Common.{ℕ, zero, suc, ◌≡◌, ◌+◌, ◌<◌, length, List, [], ◌∷◌, Bool, true, false, not, ◌&&◌, ◌⊎◌, inl, inr, refl, sym, ◌∙◌, ap, arith, subst}
use Rattle.std.specs.Prelude.{◌==◌}
use Rattle.wa_base.specs.declared.graph_names.End.{End}
use Rattle.law_base.specs.Members.{IsIn}
use Rattle.law_base.specs.Reaching.{reaches}
use Rattle.law_base.proofs.Members.{list_any-IsIn, IsIn-list_any}
use Rattle.law_base.proofs.Tests.{or_cases, and_both, and_parts, not_true}
use Rattle.law_base.proofs.Reaching.{direct, further, first_arrow, more, enough, no_way}
use Rattle.conn_graph.specs.declared.edges.Edge.{Edge}
use Rattle.conn_graph.specs.declared.edges.Ports.{Ports}
use Rattle.conn_graph.specs.declared.edges.Target.{Target}
use Rattle.conn_graph.specs.declared.edges.Target.TheVariants.{Input, Param}
use Rattle.conn_graph.specs.Edges.{target_node}
use Rattle.conn_graph.specs.Graph.{Connections}
use Rattle.conn_graph.specs.Ends.{writer_of, reader_of, same_end, ends, is_delay, arrives_at, connects, numbers_from, in_cycle, arrow, height, muted}
use Rattle.conn_graph.proofs.EndLaws.{end_is, has_writer, nat_same, same_nat, same_end_is}

length-numbers : (i : ℕ) (ns : List Ports) → length (numbers_from i ns) ≡ length ns
length-numbers i [] = refl
length-numbers i (n ∷ ns) = let e = length-numbers (suc i) ns in omega arith

has_number_from : (i k : ℕ) (ns : List Ports) → k < length ns → IsIn (i + k) (numbers_from i ns)
has_number_from i k [] l = absurd (omega arith)
has_number_from i zero (n ∷ ns) l = inl (omega arith)
has_number_from i (suc k) (n ∷ ns) l = inr (subst (λ j. IsIn j (numbers_from (suc i) ns)) (omega arith) (has_number_from (suc i) k ns (omega arith)))

pub has_number : (g : Connections) (k : ℕ) → k < length g.nodes → IsIn k (numbers_from 0 g.nodes)
has_number g k l = subst (λ j. IsIn j (numbers_from 0 g.nodes)) (omega arith) (has_number_from 0 k g.nodes l)

-- An arrow is a connection, or leads from a writer to its reader.
pub arrow_cases : (g : Connections) (a b : End) → arrow g a b ≡ true
    → ((connects g a.node.0 b.node.0 ≡ true) × (a.writer ≡ false)) ⊎ ((a.node.0 ≡ b.node.0) × (a.writer ≡ true) × (b.writer ≡ false) × (in_cycle g a.node.0 ≡ false))
unfolding arrow
arrow_cases g a b h = elim (or_cases _ _ h) [
  | inl t ↦
      let found : (e : Edge) × IsIn e g.edges × ((same_end (reader_of e.from.0) a && same_end (arrives_at g e.to) b) ≡ true) = IsIn-list_any _ g.edges t in
      let parts = and_parts (same_end (reader_of found.0.from.0) a) (same_end (arrives_at g found.0.to) b) found.2 in
      let source = same_end_is (reader_of found.0.from.0) a parts.0 in
      let target = same_end_is (arrives_at g found.0.to) b parts.1 in
      inl (
        list_any-IsIn _ g.edges found.0 found.1 (and_both _ _
            (subst (λ n. (found.0.from.0 == n) ≡ true) (ap (λ (x : End). x.node.0) source) (same_nat found.0.from.0))
            (subst (λ n. (target_node found.0.to == n) ≡ true) (node_of found.0.to ∙ ap (λ (x : End). x.node.0) target) (same_nat (target_node found.0.to)))),
        sym (ap (λ (x : End). x.writer) source),
      )
  | inr t ↦
      let four = and_parts (a.writer && not b.writer && a.node.0 == b.node.0 && is_delay g a.node.0) (not (in_cycle g a.node.0)) t in
      let three = and_parts (a.writer && not b.writer && a.node.0 == b.node.0) (is_delay g a.node.0) four.0 in
      let two = and_parts (a.writer && not b.writer) (a.node.0 == b.node.0) three.0 in
      let one = and_parts a.writer (not b.writer) two.0 in
      inr (nat_same a.node.0 b.node.0 two.1, one.0, not_is b.writer one.1, not_is (in_cycle g a.node.0) four.1)
]
  where
    node_of : (t : Target) → target_node t ≡ (arrives_at g t).node.0
    node_of (Input node input) = refl
    node_of (Param param) = refl

    not_is : (b : Bool) → not b ≡ true → b ≡ false
    not_is true h = sym h
    not_is false h = refl

-- A way between ends is a way between their nodes, or the one arrow within a delay.
project : (g : Connections) (n : ℕ) (a b : End) → reaches (arrow g) (ends g) n a b ≡ true
    → (reaches (connects g) (numbers_from 0 g.nodes) n a.node.0 b.node.0 ≡ true) ⊎ ((a.node.0 ≡ b.node.0) × (a.writer ≡ true) × (b.writer ≡ false))
project g zero a b r = absurd (no_way (arrow g) (ends g) a b r)
project g (suc n) a b r = elim (first_arrow (arrow g) (ends g) n a b r) [
  | inl h ↦ elim (arrow_cases g a b h) [
    | inl (connected, plain) ↦ inl (direct (connects g) (numbers_from 0 g.nodes) n a.node.0 b.node.0 connected)
    | inr (node, from, to, cyclic) ↦ inr (node, from, to)
  ]
  | inr (c, in_c, h, rest) ↦ elim (arrow_cases g a c h) [
    | inl (connected, plain) ↦ elim (project g n c b rest) [
      | inl way ↦ inl (further (connects g) (numbers_from 0 g.nodes) n a.node.0 c.node.0 b.node.0 (has_number g c.node.0 (end_is g c in_c).0) connected way)
      | inr (node, from, to) ↦ inl (direct (connects g) (numbers_from 0 g.nodes) n a.node.0 b.node.0 (subst (λ k. connects g a.node.0 k ≡ true) node connected))
    ]
    | inr (node, from, to, cyclic) ↦ elim (project g n c b rest) [
      | inl way ↦ inl (more (connects g) (numbers_from 0 g.nodes) n a.node.0 b.node.0 (subst (λ k. reaches (connects g) (numbers_from 0 g.nodes) n k b.node.0 ≡ true) (sym node) way))
      | inr (node', from', to') ↦ absurd (differ c.writer from' to)
    ]
  ]
]
  where
    differ : (b : Bool) → b ≡ true → b ≡ false → ⊥
    differ b h k = absurd cc

-- a writer is never muted
pub writer_unmuted : (g : Connections) (i : ℕ) → is_delay g i ≡ true → muted g (writer_of i) ≡ false
unfolding muted height in_cycle
writer_unmuted g i delays = not_true _ (λ m. elim (first_arrow (arrow g) (ends g) (length (ends g)) (writer_of i) (writer_of i) (more (arrow g) (ends g) (length (ends g)) (writer_of i) (writer_of i) m)) [
  | inl h ↦ elim (arrow_cases g (writer_of i) (writer_of i) h) [ inl (connected, plain) ↦ absurd cc | inr (node, from, to, cyclic) ↦ absurd cc ]
  | inr (c, in_c, h, rest) ↦ elim (arrow_cases g (writer_of i) c h) [
    | inl (connected, plain) ↦ absurd cc
    | inr (node, from, to, cyclic) ↦ elim (project g (length (ends g)) c (writer_of i) rest) [
      | inl way ↦ cycle c node cyclic way
      | inr (node', from', to') ↦ absurd cc
    ]
  ]
])
  where
    cycle : (c : End) → i ≡ c.node.0 → in_cycle g i ≡ false → reaches (connects g) (numbers_from 0 g.nodes) (length (ends g)) c.node.0 i ≡ true → ⊥
    cycle c node cyclic way =
        let below : i < length g.nodes = (end_is g (writer_of i) (has_writer g i delays)).0 in
        let round : reaches (connects g) (numbers_from 0 g.nodes) (length (ends g)) i i ≡ true = subst (λ k. reaches (connects g) (numbers_from 0 g.nodes) (length (ends g)) k i ≡ true) (sym node) way in
        let short : reaches (connects g) (numbers_from 0 g.nodes) (length (numbers_from 0 g.nodes)) i i ≡ true = enough (connects g) (numbers_from 0 g.nodes) (length (ends g)) i i (has_number g i below) round in
        let is : in_cycle g i ≡ true = subst (λ n. reaches (connects g) (numbers_from 0 g.nodes) n i i ≡ true) (length-numbers 0 g.nodes) short in
        absurd cc
