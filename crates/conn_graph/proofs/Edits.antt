-- A cell that is put into both of its lists, and one that is taken out.
use Rattle.std.proofs.Common.{ℕ, zero, suc, ◌≡◌, ◌+◌, ◌<◌, length, List, [], ◌∷◌, ◌++◌, map, slice_index_or, slice_set, Option, None, Some, option_map, ◌⊎◌, inl, inr, refl, sym, ◌∙◌, ap, ap₂, subst, arith}
use Rattle.std.proofs.lemmas.List.{length-append, length-map, length-set, get_or-set_same, get_or-set_other, get_or_read, map-set}
use Rattle.slab.specs.Slab.{Slab, get, slab_len, Updates}
use Rattle.law_base.specs.Members.{IsIn}
use Rattle.law_base.proofs.Members.{IsIn-append, IsIn-append_first, IsIn-append_second}
use Rattle.law_base.proofs.Places.{this_or_other}
use Rattle.conn_graph.specs.declared.cells.Cell.{Cell}
use Rattle.conn_graph.specs.declared.cells.Ends.{Ends}
use Rattle.conn_graph.specs.declared.cells.Links.{Links}
use Rattle.conn_graph.specs.declared.cells.Node.{Node}
use Rattle.conn_graph.specs.declared.cells.Side.{Side}
use Rattle.conn_graph.specs.declared.cells.Side.TheVariants.{Out, In}
use Rattle.conn_graph.specs.declared.edges.Edge.{Edge}
use Rattle.conn_graph.specs.declared.edges.Ports.{Ports}
use Rattle.conn_graph.specs.Edges.{target_node}
use Rattle.conn_graph.specs.Graph.{no_ports}
use Rattle.conn_graph.specs.Walks.{Walk}
use Rattle.conn_graph.specs.Lists.{AreLists, end_links, node_of, walks_of, end_of, ends_of, with_before, with_behind, node_at, slot, edge_at, longer, shorter, changed, edges_of, edges_in, walk_at, AreInBoth}
use Rattle.conn_graph.proofs.Segments.{last_in_all, split_at}
use Rattle.conn_graph.proofs.OneList.{to_behind, to_before, changed_not, changed_map, changed_same, key_held}
use Rattle.conn_graph.proofs.AllLists.{seen, within, edge_there, settled, grown, shrunk}

abbrev pub other_side : Side → Side
other_side Out = In
other_side In = Out

abbrev pub with_ends : Side → Ends → Node → Node
with_ends Out ends n = record n { out = ends }
with_ends In ends n = record n { into = ends }

-- ---- what a change of a cell's links is on either side

module _ (b key : Option ℕ) (k : ℕ) (c : Option Cell) where
  behind_here : (side : Side) → option_map (seen side) (changed (with_behind side b) key k c) ≡ changed (to_behind b) key k (option_map (seen side) c)
  behind_here Out = changed_map (seen Out) (with_behind Out b) (to_behind b) (λ x. refl) key k c
  behind_here In = changed_map (seen In) (with_behind In b) (to_behind b) (λ x. refl) key k c

  before_here : (side : Side) → option_map (seen side) (changed (with_before side b) key k c) ≡ changed (to_before b) key k (option_map (seen side) c)
  before_here Out = changed_map (seen Out) (with_before Out b) (to_before b) (λ x. refl) key k c
  before_here In = changed_map (seen In) (with_before In b) (to_before b) (λ x. refl) key k c

  behind_aside : (side : Side) → option_map (seen (other_side side)) (changed (with_behind side b) key k c) ≡ option_map (seen (other_side side)) c
  behind_aside Out = changed_map (seen In) (with_behind Out b) (λ s. s) (λ x. refl) key k c ∙ changed_same key k (option_map (seen In) c)
  behind_aside In = changed_map (seen Out) (with_behind In b) (λ s. s) (λ x. refl) key k c ∙ changed_same key k (option_map (seen Out) c)

  before_aside : (side : Side) → option_map (seen (other_side side)) (changed (with_before side b) key k c) ≡ option_map (seen (other_side side)) c
  before_aside Out = changed_map (seen In) (with_before Out b) (λ s. s) (λ x. refl) key k c ∙ changed_same key k (option_map (seen In) c)
  before_aside In = changed_map (seen Out) (with_before In b) (λ s. s) (λ x. refl) key k c ∙ changed_same key k (option_map (seen Out) c)

  edge_behind : (side : Side) → option_map (λ (x : Cell). x.edge) (changed (with_behind side b) key k c) ≡ option_map (λ (x : Cell). x.edge) c
  edge_behind Out = changed_map (λ (x : Cell). x.edge) (with_behind Out b) (λ s. s) (λ x. refl) key k c ∙ changed_same key k (option_map (λ (x : Cell). x.edge) c)
  edge_behind In = changed_map (λ (x : Cell). x.edge) (with_behind In b) (λ s. s) (λ x. refl) key k c ∙ changed_same key k (option_map (λ (x : Cell). x.edge) c)

  edge_before : (side : Side) → option_map (λ (x : Cell). x.edge) (changed (with_before side b) key k c) ≡ option_map (λ (x : Cell). x.edge) c
  edge_before Out = changed_map (λ (x : Cell). x.edge) (with_before Out b) (λ s. s) (λ x. refl) key k c ∙ changed_same key k (option_map (λ (x : Cell). x.edge) c)
  edge_before In = changed_map (λ (x : Cell). x.edge) (with_before In b) (λ s. s) (λ x. refl) key k c ∙ changed_same key k (option_map (λ (x : Cell). x.edge) c)

-- ---- a node whose ends changed on one side

ends_same : (side : Side) (ends : Ends) (n : Node) → ends_of side (with_ends side ends n) ≡ ends
ends_same Out ends n = refl
ends_same In ends n = refl

ends_aside : (side : Side) (ends : Ends) (n : Node) → ends_of (other_side side) (with_ends side ends n) ≡ ends_of (other_side side) n
ends_aside Out ends n = refl
ends_aside In ends n = refl

ports_same : (side : Side) (ends : Ends) (n : Node) → (with_ends side ends n).ports ≡ n.ports
ports_same Out ends n = refl
ports_same In ends n = refl

pub record SetsEnds (side : Side) (nodes nodes' : List Node) (node : ℕ) (ends : Ends) : Type 0 where
  pub count : length nodes' ≡ length nodes
  pub here : ends_of side (node_at nodes' node) ≡ ends
  pub others : (i : ℕ) → (i ≡ node → ⊥) → ends_of side (node_at nodes' i) ≡ ends_of side (node_at nodes i)
  pub aside : (i : ℕ) → ends_of (other_side side) (node_at nodes' i) ≡ ends_of (other_side side) (node_at nodes i)
  pub ports : map (λ (n : Node). n.ports) nodes' ≡ map (λ (n : Node). n.ports) nodes

pub sets_ends : (side : Side) (nodes nodes' : List Node) (node : ℕ) (ends : Ends) → node < length nodes → nodes' ≡ slice_set nodes node (with_ends side ends (node_at nodes node)) → SetsEnds side nodes nodes' node ends
sets_ends side nodes nodes' node ends low is = subst (λ ns. SetsEnds side nodes ns node ends) (sym is) (record {
  count = length-set nodes node _;
  here = ap (ends_of side) set_here ∙ ends_same side ends (node_at nodes node);
  others = λ i other. ap (ends_of side) (get_or-set_other nodes node i new _ other);
  aside = λ i. elim (this_or_other i node) [
    | inl here ↦ subst (λ j. ends_of (other_side side) (node_at (slice_set nodes node new) j) ≡ ends_of (other_side side) (node_at nodes j)) (sym here) (ap (ends_of (other_side side)) set_here ∙ ends_aside side ends (node_at nodes node))
    | inr other ↦ ap (ends_of (other_side side)) (get_or-set_other nodes node i new _ other)
  ];
  ports = map-set (λ (n : Node). n.ports) nodes node new ∙ ap (slice_set (map (λ (n : Node). n.ports) nodes) node) (ports_same side ends (node_at nodes node)) ∙ stays nodes node;
})
  where
    new : Node
    new = with_ends side ends (node_at nodes node)

    set_here : node_at (slice_set nodes node new) node ≡ new
    set_here = get_or-set_same nodes node new _ low

    stays : (ns : List Node) (i : ℕ) → slice_set (map (λ (n : Node). n.ports) ns) i (node_at ns i).ports ≡ map (λ (n : Node). n.ports) ns
    stays [] i = refl
    stays (n ∷ ns) zero = refl
    stays (n ∷ ns) (suc i) = ap (λ ps. n.ports ∷ ps) (stays ns i)

-- ---- members and numbers of walks of which one is another one

length_set : (ws : List Walk) (i : ℕ) (w : Walk) → i < length ws → length (edges_in (slice_set ws i w)) + length (walk_at ws i) ≡ length (edges_in ws) + length w
length_set [] i w l = absurd (omega arith)
length_set (x ∷ xs) zero w l =
    let a = length-append (edges_of w) (edges_in xs) in
    let b = length-append (edges_of x) (edges_in xs) in
    let c : length (edges_of w) ≡ length w = length-map w (λ s. s.1) in
    let d : length (edges_of x) ≡ length x = length-map x (λ s. s.1) in
    omega arith
length_set (x ∷ xs) (suc i) w l =
    let a = length-append (edges_of x) (edges_in (slice_set xs i w)) in
    let b = length-append (edges_of x) (edges_in xs) in
    let k = length_set xs i w (omega arith) in
    omega arith

stays_in : (ws : List Walk) (node i : ℕ) (w : Walk) (s : ℕ × Edge) → node < length ws → (IsIn s (walk_at ws node) → IsIn s w) → IsIn s (walk_at ws i) → IsIn s (walk_at (slice_set ws node w) i)
stays_in ws node i w s low stays m = elim (this_or_other i node) [
  | inl here ↦
      subst (λ j. IsIn s (walk_at (slice_set ws node w) j)) (sym here)
      (subst (λ x. IsIn s x) (sym (get_or-set_same ws node w [] low)) (stays (subst (λ j. IsIn s (walk_at ws j)) here m)))
  | inr other ↦ subst (λ x. IsIn s x) (sym (get_or-set_other ws node i w [] other)) m
]

new_in : (ws : List Walk) (node : ℕ) (w : Walk) (s : ℕ × Edge) → node < length ws → IsIn s (walk_at (slice_set ws node (w ++ s ∷ [])) node)
new_in ws node w s low = subst (λ x. IsIn s x) (sym (get_or-set_same ws node (w ++ s ∷ []) [] low)) (IsIn-append_second w (s ∷ []) s (inl refl))

-- ---- put

pub put_both : (nodes nodes1 nodes2 : List Node) (cells cells1 cells2 cells3 : Slab Cell) (outs ins : List Walk) (key : ℕ) (e : Edge) (from to : ℕ) → AreInBoth nodes cells outs ins
    → end_of Out e ≡ from → end_of In e ≡ to → from < length nodes → to < length nodes
    → get cells key ≡ None
    → Updates cells cells1 key (Some (record { edge = e; out = record { before = (node_at nodes from).out.last; behind = None }; into = record { before = (node_at nodes to).into.last; behind = None } }))
    → slab_len cells1 ≡ slab_len cells + 1
    → nodes1 ≡ slice_set nodes from (with_ends Out (longer (ends_of Out (node_at nodes from)) key) (node_at nodes from))
    → ((k : ℕ) → get cells2 k ≡ changed (with_behind Out (Some key)) (ends_of Out (node_at nodes from)).last k (get cells1 k))
    → slab_len cells2 ≡ slab_len cells1
    → nodes2 ≡ slice_set nodes1 to (with_ends In (longer (ends_of In (node_at nodes to)) key) (node_at nodes1 to))
    → ((k : ℕ) → get cells3 k ≡ changed (with_behind In (Some key)) (ends_of In (node_at nodes to)).last k (get cells2 k))
    → slab_len cells3 ≡ slab_len cells2
    → AreInBoth nodes2 cells3 (slice_set outs from (walk_at outs from ++ (key, e) ∷ [])) (slice_set ins to (walk_at ins to ++ (key, e) ∷ []))
    × (map (λ (n : Node). n.ports) nodes2 ≡ map (λ (n : Node). n.ports) nodes)
put_both nodes nodes1 nodes2 cells cells1 cells2 cells3 outs ins key e from to both from_is to_is from_low to_low vacant put held1 nodes1_is cells2_is held2 nodes2_is cells3_is held3 = (
  record {
    out = grown Out nodes nodes2 (get cells) (get cells3) outs both.out from key e from_low (second.count ∙ first.count) (λ i other. second.aside i ∙ first.others i other)
        (second.aside from ∙ first.here) (ap (option_map (seen Out)) vacant)
        (out_slot key ∙ ap (λ c. changed (to_behind (Some key)) out_last key (option_map (seen Out) c)) put.changed ∙ changed_not (to_behind (Some key)) out_last key _ out_other)
        (λ k other. out_slot k ∙ ap (λ c. changed (to_behind (Some key)) out_last k (option_map (seen Out) c)) (put.others k other))
        from_is;
    into = grown In nodes nodes2 (get cells) (get cells3) ins both.into to key e to_low (second.count ∙ first.count) (λ i other. second.others i other ∙ first.aside i)
        second.here (ap (option_map (seen In)) vacant)
        (in_slot key ∙ ap (λ c. changed (to_behind (Some key)) in_last key (option_map (seen In) c)) put.changed ∙ changed_not (to_behind (Some key)) in_last key _ in_other)
        (λ k other. in_slot k ∙ ap (λ c. changed (to_behind (Some key)) in_last k (option_map (seen In) c)) (put.others k other))
        to_is;
    each = λ k x is. elim (this_or_other k key) [
      | inl here ↦
          let edge : Some x ≡ Some e = sym is ∙ edges k ∙ ap (edge_at (get cells1)) here ∙ ap (option_map (λ (c : Cell). c.edge)) put.changed in
          let same : x ≡ e = cc in
          subst (λ j. IsIn (j, x) (walk_at outs' (end_of Out x)) × IsIn (j, x) (walk_at ins' (end_of In x))) (sym here)
          (subst (λ y. IsIn (key, y) (walk_at outs' (end_of Out y)) × IsIn (key, y) (walk_at ins' (end_of In y))) (sym same) (
            subst (λ i. IsIn (key, e) (walk_at outs' i)) (sym from_is) (new_in outs from (walk_at outs from) (key, e) from_in),
            subst (λ i. IsIn (key, e) (walk_at ins' i)) (sym to_is) (new_in ins to (walk_at ins to) (key, e) to_in),
          ))
      | inr other ↦
          let was = both.each k x (sym (edges k ∙ ap (option_map (λ (c : Cell). c.edge)) (put.others k other)) ∙ is) in (
            stays_in outs from (end_of Out x) _ (k, x) from_in (IsIn-append_first (walk_at outs from) ((key, e) ∷ []) (k, x)) was.0,
            stays_in ins to (end_of In x) _ (k, x) to_in (IsIn-append_first (walk_at ins to) ((key, e) ∷ []) (k, x)) was.1,
          )
    ];
    held =
        let one = length_set outs from (walk_at outs from ++ (key, e) ∷ []) from_in in
        let more = length-append (walk_at outs from) ((key, e) ∷ []) in
        let was = both.held in
        omega arith;
  },
  second.ports ∙ first.ports,
)
  where
    outs' : List Walk
    outs' = slice_set outs from (walk_at outs from ++ (key, e) ∷ [])

    ins' : List Walk
    ins' = slice_set ins to (walk_at ins to ++ (key, e) ∷ [])

    first : SetsEnds Out nodes nodes1 from (longer (ends_of Out (node_at nodes from)) key)
    first = sets_ends Out nodes nodes1 from _ from_low nodes1_is

    second : SetsEnds In nodes1 nodes2 to (longer (ends_of In (node_at nodes to)) key)
    second = sets_ends In nodes1 nodes2 to _ (let c = first.count in omega arith) nodes2_is

    from_in : from < length outs
    from_in = let c = both.out.count in omega arith

    to_in : to < length ins
    to_in = let c = both.into.count in omega arith

    out_last : Option ℕ
    out_last = (ends_of Out (node_at nodes from)).last

    in_last : Option ℕ
    in_last = (ends_of In (node_at nodes to)).last

    edges : (k : ℕ) → edge_at (get cells3) k ≡ edge_at (get cells1) k
    edges k =
        ap (option_map (λ (c : Cell). c.edge)) (cells3_is k) ∙ edge_behind (Some key) (ends_of In (node_at nodes to)).last k (get cells2 k) In
        ∙ ap (option_map (λ (c : Cell). c.edge)) (cells2_is k) ∙ edge_behind (Some key) out_last k (get cells1 k) Out

    out_slot : (k : ℕ) → slot Out (get cells3) k ≡ changed (to_behind (Some key)) out_last k (slot Out (get cells1) k)
    out_slot k =
        ap (option_map (seen Out)) (cells3_is k) ∙ behind_aside (Some key) (ends_of In (node_at nodes to)).last k (get cells2 k) In
        ∙ ap (option_map (seen Out)) (cells2_is k) ∙ behind_here (Some key) out_last k (get cells1 k) Out

    in_slot : (k : ℕ) → slot In (get cells3) k ≡ changed (to_behind (Some key)) in_last k (slot In (get cells1) k)
    in_slot k =
        ap (option_map (seen In)) (cells3_is k) ∙ behind_here (Some key) (ends_of In (node_at nodes to)).last k (get cells2 k) In
        ∙ ap (changed (to_behind (Some key)) in_last k)
        (ap (option_map (seen In)) (cells2_is k) ∙ behind_aside (Some key) out_last k (get cells1 k) Out)

    out_other : out_last ≡ Some key → ⊥
    out_other last =
        let list = both.out.lists from from_low in
        key_held (slot Out (get cells)) (walk_at outs from) key list.linked (last_in_all (walk_at outs from) key (sym list.last ∙ last)) (ap (option_map (seen Out)) vacant)

    in_other : in_last ≡ Some key → ⊥
    in_other last =
        let list = both.into.lists to to_low in
        key_held (slot In (get cells)) (walk_at ins to) key list.linked (last_in_all (walk_at ins to) key (sym list.last ∙ last)) (ap (option_map (seen In)) vacant)

-- ---- take

stays_without : (front back : Walk) (key : ℕ) (e : Edge) (s : ℕ × Edge) → (s.0 ≡ key → ⊥) → IsIn s (front ++ (key, e) ∷ back) → IsIn s (front ++ back)
stays_without front back key e s other m = by_part (IsIn-append front ((key, e) ∷ back) s m)
  where
    by_part : (IsIn s front ⊎ IsIn s ((key, e) ∷ back)) → IsIn s (front ++ back)
    by_part (inl h) = IsIn-append_first front back s h
    by_part (inr (inl same)) = absurd (other (ap (λ (t : ℕ × Edge). t.0) same))
    by_part (inr (inr h)) = IsIn-append_second front back s h

pub take_both : (nodes nodes1 nodes2 : List Node) (cells cells1 cells2 cells3 : Slab Cell) (outs ins : List Walk) (key : ℕ) (cell : Cell) (from to : ℕ) (out_front out_back in_front in_back : Walk) → AreInBoth nodes cells outs ins
    → from < length nodes → to < length nodes
    → walk_at outs from ≡ out_front ++ (key, cell.edge) ∷ out_back → walk_at ins to ≡ in_front ++ (key, cell.edge) ∷ in_back
    → get cells key ≡ Some cell
    → Updates cells cells1 key None
    → slab_len cells1 + 1 ≡ slab_len cells
    → nodes1 ≡ slice_set nodes from (with_ends Out (shorter (ends_of Out (node_at nodes from)) cell.out) (node_at nodes from))
    → ((k : ℕ) → get cells2 k ≡ changed (with_before Out cell.out.before) cell.out.behind k (changed (with_behind Out cell.out.behind) cell.out.before k (get cells1 k)))
    → slab_len cells2 ≡ slab_len cells1
    → nodes2 ≡ slice_set nodes1 to (with_ends In (shorter (ends_of In (node_at nodes to)) cell.into) (node_at nodes1 to))
    → ((k : ℕ) → get cells3 k ≡ changed (with_before In cell.into.before) cell.into.behind k (changed (with_behind In cell.into.behind) cell.into.before k (get cells2 k)))
    → slab_len cells3 ≡ slab_len cells2
    → AreInBoth nodes2 cells3 (slice_set outs from (out_front ++ out_back)) (slice_set ins to (in_front ++ in_back))
    × (map (λ (n : Node). n.ports) nodes2 ≡ map (λ (n : Node). n.ports) nodes)
take_both nodes nodes1 nodes2 cells cells1 cells2 cells3 outs ins key cell from to out_front out_back in_front in_back both from_low to_low out_split in_split there gone held1 nodes1_is cells2_is held2 nodes2_is cells3_is held3 = (
  record {
    out = shrunk Out nodes nodes2 (get cells) (get cells3) outs both.out from key cell.edge from_low (second.count ∙ first.count) (λ i other. second.aside i ∙ first.others i other)
        out_front out_back cell.out out_split (second.aside from ∙ first.here) (ap (option_map (seen Out)) there)
        (λ k other. out_slot k ∙ ap (λ c. changed (to_before cell.out.before) cell.out.behind k (changed (to_behind cell.out.behind) cell.out.before k (option_map (seen Out) c))) (gone.others k other));
    into = shrunk In nodes nodes2 (get cells) (get cells3) ins both.into to key cell.edge to_low (second.count ∙ first.count) (λ i other. second.others i other ∙ first.aside i)
        in_front in_back cell.into in_split second.here (ap (option_map (seen In)) there)
        (λ k other. in_slot k ∙ ap (λ c. changed (to_before cell.into.before) cell.into.behind k (changed (to_behind cell.into.behind) cell.into.before k (option_map (seen In) c))) (gone.others k other));
    each = λ k x is. elim (this_or_other k key) [
      | inl here ↦
          let none : Some x ≡ None = sym is ∙ edges k ∙ ap (edge_at (get cells1)) here ∙ ap (option_map (λ (c : Cell). c.edge)) gone.changed in
          absurd cc
      | inr other ↦
          let was = both.each k x (sym (edges k ∙ ap (option_map (λ (c : Cell). c.edge)) (gone.others k other)) ∙ is) in (
            stays_in outs from (end_of Out x) (out_front ++ out_back) (k, x) from_in (λ m. stays_without out_front out_back key cell.edge (k, x) other (subst (λ w. IsIn (k, x) w) out_split m)) was.0,
            stays_in ins to (end_of In x) (in_front ++ in_back) (k, x) to_in (λ m. stays_without in_front in_back key cell.edge (k, x) other (subst (λ w. IsIn (k, x) w) in_split m)) was.1,
          )
    ];
    held =
        let one = length_set outs from (out_front ++ out_back) from_in in
        let less = length-append out_front out_back in
        let whole = ap length out_split ∙ length-append out_front ((key, cell.edge) ∷ out_back) in
        let was = both.held in
        omega arith;
  },
  second.ports ∙ first.ports,
)
  where
    first : SetsEnds Out nodes nodes1 from (shorter (ends_of Out (node_at nodes from)) cell.out)
    first = sets_ends Out nodes nodes1 from _ from_low nodes1_is

    second : SetsEnds In nodes1 nodes2 to (shorter (ends_of In (node_at nodes to)) cell.into)
    second = sets_ends In nodes1 nodes2 to _ (let c = first.count in omega arith) nodes2_is

    from_in : from < length outs
    from_in = let c = both.out.count in omega arith

    to_in : to < length ins
    to_in = let c = both.into.count in omega arith

    edges : (k : ℕ) → edge_at (get cells3) k ≡ edge_at (get cells1) k
    edges k =
        ap (option_map (λ (c : Cell). c.edge)) (cells3_is k)
        ∙ edge_before cell.into.before cell.into.behind k (changed (with_behind In cell.into.behind) cell.into.before k (get cells2 k)) In
        ∙ edge_behind cell.into.behind cell.into.before k (get cells2 k) In
        ∙ ap (option_map (λ (c : Cell). c.edge)) (cells2_is k)
        ∙ edge_before cell.out.before cell.out.behind k (changed (with_behind Out cell.out.behind) cell.out.before k (get cells1 k)) Out
        ∙ edge_behind cell.out.behind cell.out.before k (get cells1 k) Out

    out_slot : (k : ℕ) → slot Out (get cells3) k ≡ changed (to_before cell.out.before) cell.out.behind k (changed (to_behind cell.out.behind) cell.out.before k (slot Out (get cells1) k))
    out_slot k =
        ap (option_map (seen Out)) (cells3_is k)
        ∙ before_aside cell.into.before cell.into.behind k (changed (with_behind In cell.into.behind) cell.into.before k (get cells2 k)) In
        ∙ behind_aside cell.into.behind cell.into.before k (get cells2 k) In
        ∙ ap (option_map (seen Out)) (cells2_is k)
        ∙ before_here cell.out.before cell.out.behind k (changed (with_behind Out cell.out.behind) cell.out.before k (get cells1 k)) Out
        ∙ ap (changed (to_before cell.out.before) cell.out.behind k) (behind_here cell.out.behind cell.out.before k (get cells1 k) Out)

    in_slot : (k : ℕ) → slot In (get cells3) k ≡ changed (to_before cell.into.before) cell.into.behind k (changed (to_behind cell.into.behind) cell.into.before k (slot In (get cells1) k))
    in_slot k =
        ap (option_map (seen In)) (cells3_is k)
        ∙ before_here cell.into.before cell.into.behind k (changed (with_behind In cell.into.behind) cell.into.before k (get cells2 k)) In
        ∙ ap (changed (to_before cell.into.before) cell.into.behind k) (behind_here cell.into.behind cell.into.before k (get cells2 k) In
        ∙ ap (changed (to_behind cell.into.behind) cell.into.before k) (
        ap (option_map (seen In)) (cells2_is k)
        ∙ before_aside cell.out.before cell.out.behind k (changed (with_behind Out cell.out.behind) cell.out.before k (get cells1 k)) Out
        ∙ behind_aside cell.out.behind cell.out.before k (get cells1 k) Out))

-- ---- as the two functions have it

abbrev ports_of : Node → Ports
ports_of n = n.ports

abbrev out_set : Node → Ends → Node
out_set n ends = record { ports = n.ports; out = ends; into = n.into }

abbrev in_set : Node → Ends → Node
in_set n ends = record { ports = n.ports; out = n.out; into = ends }

pub read_is : (nodes : List Node) (i : ℕ) (x : Node) → i < length nodes → x ≡ slice_index_or nodes i x → x ≡ node_at nodes i
read_is nodes i x low is = get_or_read nodes i x low is (node_of no_ports)

pub put_law : (nodes : List Node) (cells cells1 cells2 cells3 : Slab Cell) (key : ℕ) (e : Edge) (to : ℕ) (a b x y : Node) (o i : Links) (out into : Ends) → AreLists nodes cells
    → e.from.0 < length nodes → to < length nodes → to ≡ target_node e.to
    → a ≡ slice_index_or nodes e.from.0 a → b ≡ slice_index_or nodes to b
    → o ≡ end_links a.out → i ≡ end_links b.into
    → get cells key ≡ None → Updates cells cells1 key (Some (record { edge = e; out = o; into = i })) → slab_len cells1 ≡ slab_len cells + 1
    → ((k : ℕ) → get cells2 k ≡ changed (with_behind Out (Some key)) a.out.last k (get cells1 k)) → slab_len cells2 ≡ slab_len cells1
    → ((k : ℕ) → get cells3 k ≡ changed (with_behind In (Some key)) b.into.last k (get cells2 k)) → slab_len cells3 ≡ slab_len cells2
    → out ≡ longer a.out key → into ≡ longer b.into key
    → x ≡ slice_index_or nodes e.from.0 x → y ≡ slice_index_or (slice_set nodes e.from.0 (out_set x out)) to y
    → AreLists (slice_set (slice_set nodes e.from.0 (out_set x out)) to (in_set y into)) cells3
    × (walks_of Out (slice_set (slice_set nodes e.from.0 (out_set x out)) to (in_set y into)) (get cells3) ≡ slice_set (walks_of Out nodes (get cells)) e.from.0 (walk_at (walks_of Out nodes (get cells)) e.from.0 ++ (key, e) ∷ []))
    × (map ports_of (slice_set (slice_set nodes e.from.0 (out_set x out)) to (in_set y into)) ≡ map ports_of nodes)
put_law nodes cells cells1 cells2 cells3 key e to a b x y o i out into lists from_low to_low to_is a_is b_is o_is i_is vacant put held1 cells2_is held2 cells3_is held3 out_is into_is x_is y_is =
    let both = put_both nodes nodes1 nodes2 cells cells1 cells2 cells3 outs ins key e e.from.0 to lists refl (sym to_is) from_low to_low vacant
    (subst (λ (c : Cell). Updates cells cells1 key (Some c)) (ap₂ (λ (l m : Links). record { edge = e; out = l; into = m }) (o_is ∙ ap (λ (n : Node). end_links n.out) a_here) (i_is ∙ ap (λ (n : Node). end_links n.into) b_here)) put)
    held1
    (ap (slice_set nodes e.from.0) (ap (λ n. out_set n out) x_here ∙ ap (out_set (node_at nodes e.from.0)) (out_is ∙ ap (λ (n : Node). longer n.out key) a_here)))
    (λ k. cells2_is k ∙ ap (λ (n : Node). changed (with_behind Out (Some key)) n.out.last k (get cells1 k)) a_here)
    held2
    (ap (slice_set nodes1 to) (ap (λ n. in_set n into) y_here ∙ ap (in_set (node_at nodes1 to)) (into_is ∙ ap (λ (n : Node). longer n.into key) b_here)))
    (λ k. cells3_is k ∙ ap (λ (n : Node). changed (with_behind In (Some key)) n.into.last k (get cells2 k)) b_here)
    held3 in
    let done = settled nodes2 cells3 _ _ both.0 in
    (done.0, done.1, both.1)
  where
    outs : List Walk
    outs = walks_of Out nodes (get cells)

    ins : List Walk
    ins = walks_of In nodes (get cells)

    nodes1 : List Node
    nodes1 = slice_set nodes e.from.0 (out_set x out)

    nodes2 : List Node
    nodes2 = slice_set nodes1 to (in_set y into)

    a_here : a ≡ node_at nodes e.from.0
    a_here = read_is nodes e.from.0 a from_low a_is

    b_here : b ≡ node_at nodes to
    b_here = read_is nodes to b to_low b_is

    x_here : x ≡ node_at nodes e.from.0
    x_here = read_is nodes e.from.0 x from_low x_is

    y_here : y ≡ node_at nodes1 to
    y_here = read_is nodes1 to y (let l = length-set nodes e.from.0 (out_set x out) in omega arith) y_is

-- where a cell stands
pub cell_there : (nodes : List Node) (cells : Slab Cell) (key : ℕ) (cell : Cell) → AreLists nodes cells → get cells key ≡ Some cell
    → (cell.edge.from.0 < length nodes) × (target_node cell.edge.to < length nodes) × IsIn (key, cell.edge) (walk_at (walks_of Out nodes (get cells)) cell.edge.from.0) × IsIn (key, cell.edge) (walk_at (walks_of In nodes (get cells)) (target_node cell.edge.to))
cell_there nodes cells key cell lists there =
    let on = lists.each key cell.edge (ap (option_map (λ (c : Cell). c.edge)) there) in (
      within Out nodes (get cells) (walks_of Out nodes (get cells)) lists.out cell.edge.from.0 (key, cell.edge) on.0,
      within In nodes (get cells) (walks_of In nodes (get cells)) lists.into (target_node cell.edge.to) (key, cell.edge) on.1,
      on.0,
      on.1,
    )

some_in : (w : Walk) (s : ℕ × Edge) → IsIn s w → 0 < length w
some_in [] s m = absurd m
some_in (x ∷ w) s m = omega arith

pub some_out : (nodes : List Node) (cells : Slab Cell) (key : ℕ) (cell : Cell) (a : Node) → AreLists nodes cells → get cells key ≡ Some cell → a ≡ slice_index_or nodes cell.edge.from.0 a → 0 < a.out.count
some_out nodes cells key cell a lists there is =
    let on = cell_there nodes cells key cell lists there in
    let some = some_in _ _ on.2 in
    let count = (lists.out.lists cell.edge.from.0 on.0).count in
    let here = ap (λ (n : Node). n.out.count) (read_is nodes cell.edge.from.0 a on.0 is) in
    omega (arith, some, count, here)

pub some_into : (nodes : List Node) (cells : Slab Cell) (key : ℕ) (cell : Cell) (to : ℕ) (b : Node) → AreLists nodes cells → get cells key ≡ Some cell → to ≡ target_node cell.edge.to → b ≡ slice_index_or nodes to b → 0 < b.into.count
some_into nodes cells key cell to b lists there to_is is =
    let on = cell_there nodes cells key cell lists there in
    let some = some_in _ _ on.3 in
    let count = (lists.into.lists (target_node cell.edge.to) on.1).count in
    let here = ap (λ (n : Node). n.into.count) (read_is nodes (target_node cell.edge.to) b on.1 (subst (λ j. b ≡ slice_index_or nodes j b) to_is is)) in
    omega (arith, some, count, here)

pub take_law : (nodes : List Node) (cells cells1 cells2 cells3 : Slab Cell) (key : ℕ) (cell : Cell) (to : ℕ) (a b x y : Node) (out into : Ends) → AreLists nodes cells
    → to ≡ target_node cell.edge.to → get cells key ≡ Some cell
    → Updates cells cells1 key None → slab_len cells1 + 1 ≡ slab_len cells
    → ((k : ℕ) → get cells2 k ≡ changed (with_before Out cell.out.before) cell.out.behind k (changed (with_behind Out cell.out.behind) cell.out.before k (get cells1 k))) → slab_len cells2 ≡ slab_len cells1
    → ((k : ℕ) → get cells3 k ≡ changed (with_before In cell.into.before) cell.into.behind k (changed (with_behind In cell.into.behind) cell.into.before k (get cells2 k))) → slab_len cells3 ≡ slab_len cells2
    → a ≡ slice_index_or nodes cell.edge.from.0 a → b ≡ slice_index_or nodes to b
    → out ≡ shorter a.out cell.out → into ≡ shorter b.into cell.into
    → x ≡ slice_index_or nodes cell.edge.from.0 x → y ≡ slice_index_or (slice_set nodes cell.edge.from.0 (out_set x out)) to y
    → (front back : Walk) → walk_at (walks_of Out nodes (get cells)) cell.edge.from.0 ≡ front ++ (key, cell.edge) ∷ back
    → AreLists (slice_set (slice_set nodes cell.edge.from.0 (out_set x out)) to (in_set y into)) cells3
    × (walks_of Out (slice_set (slice_set nodes cell.edge.from.0 (out_set x out)) to (in_set y into)) (get cells3) ≡ slice_set (walks_of Out nodes (get cells)) cell.edge.from.0 (front ++ back))
    × (map ports_of (slice_set (slice_set nodes cell.edge.from.0 (out_set x out)) to (in_set y into)) ≡ map ports_of nodes)
take_law nodes cells cells1 cells2 cells3 key cell to a b x y out into lists to_is there gone held1 cells2_is held2 cells3_is held3 a_is b_is out_is into_is x_is y_is front back split =
    let in_split = split_at (walk_at ins to) (key, cell.edge) (subst (λ j. IsIn (key, cell.edge) (walk_at ins j)) (sym to_is) on.3) in
    let both = take_both nodes nodes1 nodes2 cells cells1 cells2 cells3 outs ins key cell from to front back in_split.0 in_split.1 lists on.0 to_low split in_split.2 there gone held1
    (ap (slice_set nodes from) (ap (λ n. out_set n out) (read_is nodes from x on.0 x_is) ∙ ap (out_set (node_at nodes from)) (out_is ∙ ap (λ (n : Node). shorter n.out cell.out) (read_is nodes from a on.0 a_is))))
    cells2_is held2
    (ap (slice_set nodes1 to) (ap (λ n. in_set n into) (read_is nodes1 to y (let l = length-set nodes from (out_set x out) in let low = to_low in omega arith) y_is) ∙ ap (in_set (node_at nodes1 to)) (into_is ∙ ap (λ (n : Node). shorter n.into cell.into) (read_is nodes to b to_low b_is))))
    cells3_is held3 in
    let done = settled nodes2 cells3 _ _ both.0 in
    (done.0, done.1, both.1)
  where
    outs : List Walk
    outs = walks_of Out nodes (get cells)

    ins : List Walk
    ins = walks_of In nodes (get cells)

    from : ℕ
    from = cell.edge.from.0

    nodes1 : List Node
    nodes1 = slice_set nodes from (out_set x out)

    nodes2 : List Node
    nodes2 = slice_set nodes1 to (in_set y into)

    on : (from < length nodes) × (target_node cell.edge.to < length nodes) × IsIn (key, cell.edge) (walk_at outs from) × IsIn (key, cell.edge) (walk_at ins (target_node cell.edge.to))
    on = cell_there nodes cells key cell lists there

    to_low : to < length nodes
    to_low = let l = on.1 in omega (arith, to_is)

-- a key on a walk has the walk's connection
pub same_edge_there : (nodes : List Node) (cells : Slab Cell) (key : ℕ) (e : Edge) (front back : Walk) (i : ℕ) → AreLists nodes cells → walk_at (walks_of Out nodes (get cells)) i ≡ front ++ (key, e) ∷ back → edge_at (get cells) key ≡ Some e
same_edge_there nodes cells key e front back i lists split =
    edge_there Out nodes (get cells) (walks_of Out nodes (get cells)) lists.out i (key, e) (subst (λ w. IsIn (key, e) w) (sym split) (IsIn-append_second front ((key, e) ∷ back) (key, e) (inl refl)))
