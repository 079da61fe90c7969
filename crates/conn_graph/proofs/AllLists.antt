-- The lists of all nodes, of which one becomes longer or shorter by a cell.
use Rattle.std.proofs.Common.{ℕ, zero, suc, ◌≡◌, ◌+◌, ◌<◌, length, List, [], ◌∷◌, ◌++◌, map, slice_index_or, slice_set, Option, None, Some, option_map, inl, inr, refl, sym, ◌∙◌, ap, ap₂, subst, arith}
use Rattle.std.proofs.lemmas.Bool.{cases_lt}
use Rattle.std.proofs.lemmas.List.{length-append, length-map, length-set, get_or_append_left, get_or-set_same, get_or-set_other, get_or_past, ext_get_or}
use Rattle.std.specs.List.{AllZip}
use Rattle.slab.specs.Slab.{Slab, get, IsSlotClone}
use Rattle.law_base.specs.Members.{IsIn, AreDistinct}
use Rattle.law_base.proofs.Members.{IsIn-append_second}
use Rattle.law_base.proofs.Places.{this_or_other, last_item, more_item}
use Rattle.conn_graph.specs.declared.cells.Cell.{Cell}
use Rattle.conn_graph.specs.declared.cells.Links.{Links}
use Rattle.conn_graph.specs.declared.cells.Node.{Node}
use Rattle.conn_graph.specs.declared.cells.Side.{Side}
use Rattle.conn_graph.specs.declared.cells.Side.TheVariants.{Out, In}
use Rattle.conn_graph.specs.declared.edges.Edge.{Edge}
use Rattle.conn_graph.specs.declared.edges.Ports.{Ports}
use Rattle.conn_graph.specs.Graph.{no_ports}
use Rattle.conn_graph.specs.Walks.{Walk}
use Rattle.conn_graph.specs.Lists.{end_of, ends_of, links_of, node_of, node_at, slot, edge_at, keys, edges_of, edges_in, first_of, last_of, longer, shorter, changed, along, IsList, walk_at, walks_of, AreListsOf, AreInBoth, AreLists, threads_of, AreThreads}
use Rattle.conn_graph.proofs.Segments.{key_in, key_first, key_second, first_in, last_in_all, step_of_key, linked_at, along_linked}
use Rattle.conn_graph.proofs.OneList.{to_behind, to_before, changed_not, key_held, list_still, list_longer, list_shorter, links_there}

pub mapped_at : {X Y : Type 0} (f : X → Y) (xs : List X) (i : ℕ) (d : X) (e : Y) → i < length xs → slice_index_or (map f xs) i e ≡ f (slice_index_or xs i d)
mapped_at f [] i d e l = absurd (omega arith)
mapped_at f (x ∷ xs) zero d e l = refl
mapped_at f (x ∷ xs) (suc i) d e l = mapped_at f xs i d e (omega arith)

-- ---- the connection of a cell

-- what a list sees of a cell
abbrev pub seen : Side → Cell → Edge × Links
seen side c = (c.edge, links_of side c)

pub edge_of_slot : (side : Side) (at : ℕ → Option Cell) (k : ℕ) (e : Edge) (l : Links) → slot side at k ≡ Some (e, l) → edge_at at k ≡ Some e
edge_of_slot side at k e l is = by_case (at k) is
  where
    edge_in : Option (Edge × Links) → Option Edge
    edge_in None = None
    edge_in (Some s) = Some s.0

    by_case : (c : Option Cell) → option_map (seen side) c ≡ Some (e, l) → option_map (λ (c : Cell). c.edge) c ≡ Some e
    by_case None h = absurd cc
    by_case (Some c) h = ap edge_in h

-- ---- the lists of all nodes on one side

module _ (side : Side) (nodes : List Node) (at : ℕ → Option Cell) (ws : List Walk) (all : AreListsOf side nodes at ws) where
  pub within : (i : ℕ) (s : ℕ × Edge) → IsIn s (walk_at ws i) → i < length nodes
  within i s m = elim (cases_lt i (length nodes)) [
    | inl low ↦ low
    | inr past ↦ absurd (subst (λ w. IsIn s w) (get_or_past ws i [] (let c = all.count in omega arith)) m)
  ]

  pub slot_of : (i : ℕ) (s : ℕ × Edge) → IsIn s (walk_at ws i) → (l : Links) × (slot side at s.0 ≡ Some (s.1, l))
  slot_of i s m = linked_at (slot side at) None None (walk_at ws i) s (all.lists i (within i s m)).linked m

  pub edge_there : (i : ℕ) (s : ℕ × Edge) → IsIn s (walk_at ws i) → edge_at at s.0 ≡ Some s.1
  edge_there i s m = let is = slot_of i s m in edge_of_slot side at s.0 s.1 is.0 is.1

  -- a key stands in the list of one node alone
  pub one_list : (i j k : ℕ) → i < length nodes → j < length nodes → IsIn k (keys (walk_at ws i)) → IsIn k (keys (walk_at ws j)) → i ≡ j
  one_list i j k l m a b =
      let s = step_of_key (walk_at ws i) k a in
      let t = step_of_key (walk_at ws j) k b in
      let here = edge_there i s.0 s.1 in
      let there = edge_there j t.0 t.1 in
      let same : Some s.0.1 ≡ Some t.0.1 = sym here ∙ ap (edge_at at) (sym s.2 ∙ t.2) ∙ there in
      let edge : s.0.1 ≡ t.0.1 = cc in
      sym ((all.lists i l).own s.0 s.1) ∙ ap (end_of side) edge ∙ (all.lists j m).own t.0 t.1

  -- forward from the first cell of each node
  pub walks_are : walks_of side nodes at ≡ ws
  walks_are = ext_get_or [] (walks_of side nodes at) ws (length-map nodes _ ∙ sym all.count) (λ i l.
      let low : i < length nodes = let m = length-map nodes (λ (n : Node). along (slot side at) (ends_of side n).count (ends_of side n).first) in omega arith in
      let list = all.lists i low in
      mapped_at (λ (n : Node). along (slot side at) (ends_of side n).count (ends_of side n).first) nodes i (node_of no_ports) [] low
      ∙ ap₂ (along (slot side at)) list.count list.first
      ∙ along_linked (slot side at) None (walk_at ws i) list.linked)

  -- one list is another one, and the others stay
  pub one_other : (nodes' : List Node) (at' : ℕ → Option Cell) (node : ℕ) (w : Walk) → node < length nodes → length nodes' ≡ length nodes
      → ((i : ℕ) → (i ≡ node → ⊥) → ends_of side (node_at nodes' i) ≡ ends_of side (node_at nodes i))
      → ((i k : ℕ) → i < length nodes → (i ≡ node → ⊥) → IsIn k (keys (walk_at ws i)) → slot side at' k ≡ slot side at k)
      → IsList (slot side at') (end_of side) node (ends_of side (node_at nodes' node)) w
      → AreListsOf side nodes' at' (slice_set ws node w)
  one_other nodes' at' node w low count ends slots list = record {
    count = length-set ws node w ∙ all.count ∙ sym count;
    lists = λ i l. elim (this_or_other i node) [
      | inl here ↦
          subst (λ j. IsList (slot side at') (end_of side) j (ends_of side (node_at nodes' j)) (walk_at (slice_set ws node w) j)) (sym here)
          (subst (IsList (slot side at') (end_of side) node (ends_of side (node_at nodes' node))) (sym (get_or-set_same ws node w [] (let c = all.count in omega arith))) list)
      | inr other ↦
          let was : i < length nodes = omega arith in
          subst (IsList (slot side at') (end_of side) i (ends_of side (node_at nodes' i))) (sym (get_or-set_other ws node i w [] other))
          (list_still (slot side at) (slot side at') (end_of side) i (ends_of side (node_at nodes i)) (ends_of side (node_at nodes' i)) (walk_at ws i) (ends i other) (λ k m. slots i k was other m) (all.lists i was))
    ];
  }

  -- all stay
  pub none_other : (nodes' : List Node) (at' : ℕ → Option Cell) → length nodes' ≡ length nodes
      → ((i : ℕ) → ends_of side (node_at nodes' i) ≡ ends_of side (node_at nodes i))
      → ((i k : ℕ) → i < length nodes → IsIn k (keys (walk_at ws i)) → slot side at' k ≡ slot side at k)
      → AreListsOf side nodes' at' ws
  none_other nodes' at' count ends slots = record {
    count = all.count ∙ sym count;
    lists = λ i l.
        let was : i < length nodes = omega arith in
        list_still (slot side at) (slot side at') (end_of side) i (ends_of side (node_at nodes i)) (ends_of side (node_at nodes' i)) (walk_at ws i) (ends i) (λ k m. slots i k was m) (all.lists i was);
  }

-- ---- both sides

pub settled : (nodes : List Node) (cells : Slab Cell) (outs ins : List Walk) → AreInBoth nodes cells outs ins
    → AreLists nodes cells × (walks_of Out nodes (get cells) ≡ outs) × (walks_of In nodes (get cells) ≡ ins)
settled nodes cells outs ins both =
    let out = walks_are Out nodes (get cells) outs both.out in
    let into = walks_are In nodes (get cells) ins both.into in
    (subst (λ ys. AreInBoth nodes cells (walks_of Out nodes (get cells)) ys) (sym into) (subst (λ xs. AreInBoth nodes cells xs ins) (sym out) both), out, into)

pub are_threads : (nodes : List Node) (cells : Slab Cell) (room : ℕ) → AreLists nodes cells → AreThreads (threads_of nodes (get cells) room)
are_threads nodes cells room both = record {
  outs = length-map nodes _ ∙ sym (length-map nodes _);
  ins = length-map nodes _ ∙ sym (length-map nodes _);
  from = λ node step m. (both.out.lists node (within Out nodes (get cells) outs both.out node step m)).own step m;
  to = λ node step. (
    (λ m.
        let own = (both.into.lists node (within In nodes (get cells) ins both.into node step m)).own step m in
        (own, (both.each step.0 step.1 (edge_there In nodes (get cells) ins both.into node step m)).0)),
    (λ m. subst (λ n. IsIn step (walk_at ins n)) m.0 (both.each step.0 step.1 (edge_there Out nodes (get cells) outs both.out step.1.from.0 step m.1)).1),
  );
  out_cells = λ node. distinct Out outs both.out node;
  in_cells = λ node. distinct In ins both.into node;
}
  where
    outs : List Walk
    outs = walks_of Out nodes (get cells)

    ins : List Walk
    ins = walks_of In nodes (get cells)

    distinct : (side : Side) (ws : List Walk) → AreListsOf side nodes (get cells) ws → (node : ℕ) → AreDistinct (keys (walk_at ws node))
    distinct side ws all node = elim (cases_lt node (length nodes)) [
      | inl low ↦ (all.lists node low).once
      | inr past ↦ subst (λ w. AreDistinct (keys w)) (sym (get_or_past ws node [] (let c = all.count in omega arith))) tt
    ]

-- ---- a list of one side that becomes longer or shorter by a cell

module _ (side : Side) (nodes nodes' : List Node) (at at' : ℕ → Option Cell) (ws : List Walk) (all : AreListsOf side nodes at ws) (node key : ℕ) (e : Edge)
    (low : node < length nodes) (count : length nodes' ≡ length nodes)
    (ends : (i : ℕ) → (i ≡ node → ⊥) → ends_of side (node_at nodes' i) ≡ ends_of side (node_at nodes i)) where
  pub grown : ends_of side (node_at nodes' node) ≡ longer (ends_of side (node_at nodes node)) key → slot side at key ≡ None
      → slot side at' key ≡ Some (e, record { before = (ends_of side (node_at nodes node)).last; behind = None })
      → ((k : ℕ) → (k ≡ key → ⊥) → slot side at' k ≡ changed (to_behind (Some key)) (ends_of side (node_at nodes node)).last k (slot side at k))
      → end_of side e ≡ node
      → AreListsOf side nodes' at' (slice_set ws node (walk_at ws node ++ (key, e) ∷ []))
  grown here new is slots own =
      one_other side nodes at ws all nodes' at' node (walk_at ws node ++ (key, e) ∷ []) low count ends
      (λ i k l other m.
      slots k (λ same. key_held (slot side at) (walk_at ws i) k (all.lists i l).linked m (ap (slot side at) same ∙ new))
      ∙ changed_not (to_behind (Some key)) (ends_of side (node_at nodes node)).last k (slot side at k)
      (λ last. other (one_list side nodes at ws all i node k l low m (last_in_all (walk_at ws node) k (sym (all.lists node low).last ∙ last)))))
      (subst (λ n. IsList (slot side at') (end_of side) node n (walk_at ws node ++ (key, e) ∷ [])) (sym here)
      (list_longer (slot side at) (slot side at') (end_of side) node (ends_of side (node_at nodes node)) (walk_at ws node) key e (all.lists node low) new is slots own))

  pub shrunk : (front back : Walk) (links : Links) → walk_at ws node ≡ front ++ (key, e) ∷ back → ends_of side (node_at nodes' node) ≡ shorter (ends_of side (node_at nodes node)) links
      → slot side at key ≡ Some (e, links)
      → ((k : ℕ) → (k ≡ key → ⊥) → slot side at' k ≡ changed (to_before links.before) links.behind k (changed (to_behind links.behind) links.before k (slot side at k)))
      → AreListsOf side nodes' at' (slice_set ws node (front ++ back))
  shrunk front back links split here is slots =
      one_other side nodes at ws all nodes' at' node (front ++ back) low count ends
      (λ i k l other m.
      slots k (λ same. elsewhere i k l other m (subst (λ j. IsIn j (keys whole)) (sym same) (key_in whole (key, e) (IsIn-append_second front ((key, e) ∷ back) (key, e) (inl refl)))))
      ∙ changed_not (to_before links.before) links.behind k (changed (to_behind links.behind) links.before k (slot side at k))
      (λ b. elsewhere i k l other m (key_second front ((key, e) ∷ back) k (inr (first_in back k (sym (ap (λ (x : Links). x.behind) there) ∙ b)))))
      ∙ changed_not (to_behind links.behind) links.before k (slot side at k)
      (λ b. elsewhere i k l other m (key_first front ((key, e) ∷ back) k (last_in_all front k (sym (ap (λ (x : Links). x.before) there) ∙ b)))))
      (subst (λ n. IsList (slot side at') (end_of side) node n (front ++ back)) (sym here)
      (list_shorter (slot side at) (slot side at') (end_of side) node (ends_of side (node_at nodes node)) front back key e links list is slots))
    where
      whole : Walk
      whole = front ++ (key, e) ∷ back

      list : IsList (slot side at) (end_of side) node (ends_of side (node_at nodes node)) whole
      list = subst (IsList (slot side at) (end_of side) node (ends_of side (node_at nodes node))) split (all.lists node low)

      there : links ≡ record { before = last_of None front; behind = first_of back None }
      there = links_there (slot side at) (slot side at') (end_of side) node (ends_of side (node_at nodes node)) front back key e links list is

      elsewhere : (i k : ℕ) → i < length nodes → (i ≡ node → ⊥) → IsIn k (keys (walk_at ws i)) → IsIn k (keys whole) → ⊥
      elsewhere i k l other m h = other (one_list side nodes at ws all i node k l low m (subst (λ w. IsIn k (keys w)) (sym split) h))

-- ---- one more node

pub edges_more : (ws : List Walk) → edges_in (ws ++ [] ∷ []) ≡ edges_in ws
edges_more [] = refl
edges_more (w ∷ ws) = ap (λ es. edges_of w ++ es) (edges_more ws)

lists_more : (side : Side) (nodes : List Node) (at : ℕ → Option Cell) (ws : List Walk) (p : Ports) → AreListsOf side nodes at ws → AreListsOf side (nodes ++ node_of p ∷ []) at (ws ++ [] ∷ [])
lists_more side nodes at ws p all = record {
  count = length-append ws ([] ∷ []) ∙ ap (λ n. n + 1) all.count ∙ sym (length-append nodes (node_of p ∷ []));
  lists = λ i l.
      let low : i < length nodes + 1 = let n = length-append nodes (node_of p ∷ []) in omega arith in
      let count = all.count in
      more_item nodes (node_of p) (node_of no_ports) i (λ n. IsList (slot side at) (end_of side) i (ends_of side n) (walk_at (ws ++ [] ∷ []) i)) low
      (λ k. subst (IsList (slot side at) (end_of side) i (ends_of side (node_at nodes i))) (sym (get_or_append_left ws ([] ∷ []) [] i (omega arith))) (all.lists i k))
      (λ k. subst (λ w. IsList (slot side at) (end_of side) i (ends_of side (node_of p)) w) (sym (ap (walk_at (ws ++ [] ∷ [])) (k ∙ sym count) ∙ last_item ws [] [])) (none side i));
}
  where
    none : (s : Side) (i : ℕ) → IsList (slot side at) (end_of side) i (ends_of s (node_of p)) []
    none Out i = record { first = refl; last = refl; count = refl; linked = tt; once = tt; own = λ step m. absurd m }
    none In i = record { first = refl; last = refl; count = refl; linked = tt; once = tt; own = λ step m. absurd m }

pub both_more : (nodes : List Node) (cells : Slab Cell) (p : Ports) → AreLists nodes cells
    → AreInBoth (nodes ++ node_of p ∷ []) cells (walks_of Out nodes (get cells) ++ [] ∷ []) (walks_of In nodes (get cells) ++ [] ∷ [])
both_more nodes cells p both = record {
  out = lists_more Out nodes (get cells) outs p both.out;
  into = lists_more In nodes (get cells) ins p both.into;
  each = λ key e is. let was = both.each key e is in (still Out outs both.out (end_of Out e) (key, e) was.0, still In ins both.into (end_of In e) (key, e) was.1);
  held = both.held ∙ ap length (sym (edges_more outs));
}
  where
    outs : List Walk
    outs = walks_of Out nodes (get cells)

    ins : List Walk
    ins = walks_of In nodes (get cells)

    still : (side : Side) (ws : List Walk) → AreListsOf side nodes (get cells) ws → (i : ℕ) (s : ℕ × Edge) → IsIn s (walk_at ws i) → IsIn s (walk_at (ws ++ [] ∷ []) i)
    still side ws all i s m = subst (λ w. IsIn s w) (sym (get_or_append_left ws ([] ∷ []) [] i (let l = within side nodes (get cells) ws all i s m in let c = all.count in omega arith))) m

pub lists_more_are : (nodes : List Node) (cells : Slab Cell) (p : Ports) → AreLists nodes cells → AreLists (nodes ++ node_of p ∷ []) cells
lists_more_are nodes cells p both = (settled (nodes ++ node_of p ∷ []) cells _ _ (both_more nodes cells p both)).0

-- ---- the same slots in another slab

pub lists_slots : (nodes : List Node) (cells new : Slab Cell) → new.slots ≡ cells.slots → AreLists nodes cells → AreLists nodes new
lists_slots nodes cells new same h = subst (λ xs. AreLists nodes (record { slots = xs; vacant_key = new.vacant_key; capacity = new.capacity })) (sym same) (record {
  out = h.out;
  into = h.into;
  each = h.each;
  held = h.held;
})

-- a slab and its clone have the same slots
pub same_clones : (R : Cell → Cell → Type 0) → ((a b : Cell) → R a b → b ≡ a) → (xs ys : List (Option Cell)) → AllZip (IsSlotClone R) xs ys → ys ≡ xs
same_clones R same [] [] h = refl
same_clones R same [] (y ∷ ys) h = absurd h
same_clones R same (x ∷ xs) [] h = absurd h
same_clones R same (None ∷ xs) (y ∷ ys) h = ap₂ (λ a bs. a ∷ bs) h.0 (same_clones R same xs ys h.1)
same_clones R same (Some x ∷ xs) (None ∷ ys) h = absurd h.0
same_clones R same (Some x ∷ xs) (Some y ∷ ys) h = ap₂ (λ a bs. a ∷ bs) (ap Some (same x y h.0)) (same_clones R same xs ys h.1)
