-- A node is in a cycle, and an end is muted, in a part exactly where they are in the whole.
use Rattle.std.proofs.Common.{ℕ, suc, ◌≡◌, ◌+◌, ◌<◌, length, List, [], ◌∷◌, Bool, true, false, not, ◌&&◌, ◌⊎◌, inl, inr, refl, sym, ◌∙◌, ap, subst, subst₂, arith}
use Rattle.std.specs.Prelude.{◌==◌}
use Rattle.wa_base.specs.declared.graph_names.End.{End}
use Rattle.law_base.specs.Members.{IsIn}
use Rattle.law_base.proofs.Members.{list_any-IsIn, IsIn-list_any}
use Rattle.law_base.proofs.Tests.{or_cases, and_both, and_parts}
use Rattle.conn_graph.specs.declared.edges.Edge.{Edge}
use Rattle.conn_graph.specs.declared.edges.Ports.{Ports}
use Rattle.conn_graph.specs.declared.edges.Target.{Target}
use Rattle.conn_graph.specs.declared.edges.Target.TheVariants.{Input, Param}
use Rattle.conn_graph.specs.Edges.{target_node}
use Rattle.conn_graph.specs.Graph.{Connections}
use Rattle.conn_graph.specs.Ends.{writer_of, reader_of, same_end, ends, is_delay, arrives_at, connects, numbers_from, in_cycle, arrow, height, muted}
use Rattle.conn_graph.proofs.EndLaws.{nat_same, same_nat, same_end_is, edge_arrow, writer_arrow, delay_below, has_writer}
use Rattle.conn_graph.proofs.MutingLaws.{has_number}
use Rattle.meaning.specs.declared.world.World.{World}
use Rattle.prune.specs.Parts.{Numbering, whole_end, whole_edge}
use Rattle.prune.proofs.Numbers.{one_number, one_end, target_of}
use Rattle.prune.proofs.Ways.{IsClosed, same_cycles}
use Rattle.prune.proofs.Connected.{Parted, node_there, whole_there, same_delay, end_there, end_within, reader_there, same_arrival, source_there, target_there, edge_within, edge_back}

-- ---- the numbers of a graph's nodes

length-numbers : (i : ℕ) (ns : List Ports) → length (numbers_from i ns) ≡ length ns
length-numbers i [] = refl
length-numbers i (n ∷ ns) = ap suc (length-numbers (suc i) ns)

number_below : (i : ℕ) (ns : List Ports) (k : ℕ) → IsIn k (numbers_from i ns) → k < i + length ns
number_below i [] k h = absurd h
number_below i (n ∷ ns) k (inl e) = omega (arith, e)
number_below i (n ∷ ns) k (inr h) = let l = number_below (suc i) ns k h in omega (arith, l)

-- ---- arrows

-- An arrow is a connection, or leads from the writer of a delay that is in no cycle to its reader.
pub record IsWithin (g : Connections) (a b : End) : Type 0 where
  pub from : a ≡ writer_of a.node.0
  pub to : b ≡ reader_of a.node.0
  pub delay : is_delay g a.node.0 ≡ true
  pub free : in_cycle g a.node.0 ≡ false

pub arrow_is : (g : Connections) (a b : End) → arrow g a b ≡ true → ((x : Edge) × IsIn x g.edges × (reader_of x.from.0 ≡ a) × (arrives_at g x.to ≡ b)) ⊎ IsWithin g a b
unfolding arrow
arrow_is g a b h = elim (or_cases _ _ h) [
  | inl t ↦
      let found : (e : Edge) × IsIn e g.edges × ((same_end (reader_of e.from.0) a && same_end (arrives_at g e.to) b) ≡ true) = IsIn-list_any _ g.edges t in
      let parts = and_parts (same_end (reader_of found.0.from.0) a) (same_end (arrives_at g found.0.to) b) found.2 in
      inl (found.0, found.1, same_end_is (reader_of found.0.from.0) a parts.0, same_end_is (arrives_at g found.0.to) b parts.1)
  | inr t ↦
      let four = and_parts (a.writer && not b.writer && a.node.0 == b.node.0 && is_delay g a.node.0) (not (in_cycle g a.node.0)) t in
      let three = and_parts (a.writer && not b.writer && a.node.0 == b.node.0) (is_delay g a.node.0) four.0 in
      let two = and_parts (a.writer && not b.writer) (a.node.0 == b.node.0) three.0 in
      let one = and_parts a.writer (not b.writer) two.0 in
      inr (record {
        from = ap (λ t. let x : End = record { node = a.node; writer = t } in x) one.0;
        to = ap (λ t. let x : End = record { node = b.node; writer = t } in x) (not_is b.writer one.1) ∙ ap reader_of (sym (nat_same a.node.0 b.node.0 two.1));
        delay = three.1;
        free = not_is (in_cycle g a.node.0) four.1;
      })
]
  where
    not_is : (b : Bool) → not b ≡ true → b ≡ false
    not_is true h = sym h
    not_is false h = refl

arrival_node : (g : Connections) (t : Target) → target_node t ≡ (arrives_at g t).node.0
arrival_node g (Input node input) = refl
arrival_node g (Param param) = refl

module _ (r : Numbering) (part whole : World) (parted : Parted r part whole) where
  abbrev inner : Connections
  inner = part.graph.value

  abbrev outer : Connections
  outer = whole.graph.value

  -- ---- cycles

  connects_there : (a b : ℕ) → connects inner a b ≡ true → connects outer (r a) (r b) ≡ true
  connects_there a b h =
      let found : (x : Edge) × IsIn x inner.edges × ((x.from.0 == a && target_node x.to == b) ≡ true) = IsIn-list_any _ inner.edges h in
      let parts = and_parts (found.0.from.0 == a) (target_node found.0.to == b) found.2 in
      list_any-IsIn _ outer.edges (whole_edge r found.0) (edge_within r part whole parted found.0 found.1) (and_both _ _
      (subst (λ k. (r found.0.from.0 == r k) ≡ true) (nat_same found.0.from.0 a parts.0) (same_nat (r found.0.from.0)))
      (subst (λ k. (k == r b) ≡ true) (sym (target_of r found.0.to ∙ ap r (nat_same (target_node found.0.to) b parts.1))) (same_nat (r b))))

  connects_back : (y b : ℕ) → b < length part.nodes → connects outer y (r b) ≡ true → (a : ℕ) × IsIn a (numbers_from 0 inner.nodes) × (y ≡ r a) × (connects inner a b ≡ true)
  connects_back y b l h =
      let found : (x : Edge) × IsIn x outer.edges × ((x.from.0 == y && target_node x.to == r b) ≡ true) = IsIn-list_any _ outer.edges h in
      let parts = and_parts (found.0.from.0 == y) (target_node found.0.to == r b) found.2 in
      let to : target_node found.0.to ≡ r b = nat_same (target_node found.0.to) (r b) parts.1 in
      let x = edge_back r part whole parted found.0 found.1 b l to in
      let target : target_node x.0.to ≡ b = one_number r parted.rising (target_node x.0.to) b (sym (target_of r x.0.to) ∙ sym (ap (λ (e : Edge). target_node e.to) x.2) ∙ to) in (
        x.0.from.0,
        has_number inner x.0.from.0 (parted.joined.places x.0 x.1).from,
        sym (nat_same found.0.from.0 y parts.0) ∙ ap (λ (e : Edge). e.from.0) x.2,
        list_any-IsIn _ inner.edges x.0 x.1 (and_both _ _ (same_nat x.0.from.0) (subst (λ k. (target_node x.0.to == k) ≡ true) target (same_nat (target_node x.0.to)))),
      )

  number_there : (n : ℕ) → IsIn n (numbers_from 0 inner.nodes) → n < length part.nodes
  number_there n h = node_there r part whole parted n (let l = number_below 0 inner.nodes n h in omega (arith, l))

  closed_nodes : IsClosed r (numbers_from 0 inner.nodes) (numbers_from 0 outer.nodes) (connects inner) (connects outer)
  closed_nodes = record {
    ends = λ n h. has_number outer (r n) (whole_there r part whole parted n (number_there n h));
    there = connects_there;
    back = λ y b in_b h. connects_back y b (number_there b in_b) h;
    once = one_number r parted.rising;
  }

  pub same_in_cycle : (n : ℕ) → n < length part.nodes → in_cycle inner n ≡ in_cycle outer (r n)
  unfolding in_cycle
  same_in_cycle n l =
      same_cycles r (numbers_from 0 inner.nodes) (numbers_from 0 outer.nodes) (connects inner) (connects outer) closed_nodes
      (length inner.nodes) (length outer.nodes) (sym (length-numbers 0 inner.nodes)) (sym (length-numbers 0 outer.nodes)) n (has_number inner n (subst (λ k. n < k) (sym parted.size) l))

  -- ---- muting

  arrow_there : (a b : End) → arrow inner a b ≡ true → arrow outer (whole_end r a) (whole_end r b) ≡ true
  arrow_there a b h = elim (arrow_is inner a b h) [
    | inl (x, in_x, from, to) ↦
        subst₂ (λ c d. arrow outer c d ≡ true)
        (ap (whole_end r) from)
        (same_arrival r part whole parted x.to (target_there r part whole parted x in_x) ∙ ap (whole_end r) to)
        (edge_arrow outer (whole_edge r x) (edge_within r part whole parted x in_x))
    | inr within ↦
        let n : ℕ = a.node.0 in
        let l : n < length part.nodes = node_there r part whole parted n (delay_below inner n within.delay) in
        subst₂ (λ c d. arrow outer c d ≡ true) (ap (whole_end r) (sym within.from)) (ap (whole_end r) (sym within.to))
        (writer_arrow outer (r n) (sym (same_delay r part whole parted n l) ∙ within.delay) (sym (same_in_cycle n l) ∙ within.free))
  ]

  arrow_back : (y b : End) → IsIn b (ends inner) → arrow outer y (whole_end r b) ≡ true → (a : End) × IsIn a (ends inner) × (y ≡ whole_end r a) × (arrow inner a b ≡ true)
  arrow_back y b in_b h = elim (arrow_is outer y (whole_end r b) h) [
    | inl (e, in_e, from, to) ↦
        let x = edge_back r part whole parted e in_e b.node.0 l (arrival_node outer e.to ∙ ap (λ (z : End). z.node.0) to) in
        let arrives : arrives_at inner x.0.to ≡ b = one_end r parted.rising (arrives_at inner x.0.to) b
        (sym (same_arrival r part whole parted x.0.to (target_there r part whole parted x.0 x.1)) ∙ sym (ap (λ (z : Edge). arrives_at outer z.to) x.2) ∙ to) in (
          reader_of x.0.from.0,
          reader_there r part whole parted x.0.from.0 (source_there r part whole parted x.0 x.1),
          sym from ∙ ap (λ (z : Edge). reader_of z.from.0) x.2,
          subst (λ d. arrow inner (reader_of x.0.from.0) d ≡ true) arrives (edge_arrow inner x.0 x.1),
        )
    | inr within ↦
        let node : y.node.0 ≡ r b.node.0 = sym (ap (λ (z : End). z.node.0) within.to) in
        let delay : is_delay inner b.node.0 ≡ true = same_delay r part whole parted b.node.0 l ∙ subst (λ k. is_delay outer k ≡ true) node within.delay in
        let free : in_cycle inner b.node.0 ≡ false = same_in_cycle b.node.0 l ∙ subst (λ k. in_cycle outer k ≡ false) node within.free in
        let reader : b ≡ reader_of b.node.0 = ap (λ t. let x : End = record { node = b.node; writer = t } in x) (ap (λ (z : End). z.writer) within.to) in (
          writer_of b.node.0,
          has_writer inner b.node.0 delay,
          within.from ∙ ap writer_of node,
          subst (λ d. arrow inner (writer_of b.node.0) d ≡ true) (sym reader) (writer_arrow inner b.node.0 delay free),
        )
  ]
    where
      l : b.node.0 < length part.nodes
      l = end_there r part whole parted b in_b

  pub same_muted : (e : End) → IsIn e (ends inner) → muted inner e ≡ muted outer (whole_end r e)
  unfolding muted height
  same_muted e h =
      same_cycles (whole_end r) (ends inner) (ends outer) (arrow inner) (arrow outer)
      (record { ends = end_within r part whole parted; there = arrow_there; back = arrow_back; once = one_end r parted.rising })
      (length (ends inner)) (length (ends outer)) refl refl e h
