-- A world without the nodes that are not kept is a part of the whole.
use Rattle.std.proofs.Common.{ℕ, ◌≡◌, ◌<◌, ◌↔◌, true, length, List, [], ◌∷◌, map, filter, slice_index_or, Option, Some, None, option_map, inl, inr, refl, sym, ◌∙◌, ap, ap₂, subst}
use Rattle.std.specs.Prelude.{◌&&◌}
use Rattle.std.proofs.lemmas.List.{length-map}
use Rattle.wa_base.specs.declared.graph_names.ParamName.{ParamName}
use Rattle.law_base.specs.Members.{IsIn}
use Rattle.law_base.proofs.Members.{IsIn-filter}
use Rattle.law_base.proofs.Tests.{and_parts}
use Rattle.node_table.specs.declared.nodes.Node.{Node}
use Rattle.conn_graph.specs.declared.edges.Edge.{Edge}
use Rattle.conn_graph.specs.declared.edges.Target.{Target}
use Rattle.conn_graph.specs.declared.edges.Target.TheVariants.{Input, Param as to_param}
use Rattle.conn_graph.specs.Edges.{target_node}
use Rattle.conn_graph.specs.Walks.{GraphView}
use Rattle.meaning.specs.declared.world.World.{World}
use Rattle.meaning.specs.declared.params.Param.{Param}
use Rattle.meaning.specs.declared.scheds.Play.{Play}
use Rattle.meaning.specs.World.{no_node, param_id, find_param, find_play}
use Rattle.meaning.specs.Validity.{IsValid, ports_of}
use Rattle.prune.specs.Parts.{whole_target, whole_edge, is_kept as is_numbered, is_kept_edge as is_numbered_edge, Performance, performance_of, performance, unfired, IsPartOf}
use Rattle.prune.proofs.Flags.{Flags, is_kept, part_number, whole_number, whole_kept, part-whole, whole-part, below_part, part_below}
use Rattle.prune.proofs.Members.{same_filter, same_truth}
use Rattle.prune.proofs.Numbers.{kept_there, kept_is}
use Rattle.prune.proofs.Filtered.{at_whole}
use Rattle.prune.proofs.Without.{part_edge, part_target, is_kept_edge, renumbered_param, renumbered_play, IsWithout}
use Rattle.prune.proofs.Thawing.{same_thawed}
use Rattle.prune.proofs.WithoutFacts.{nodes_count, param_found, play_found}

-- ---- a connection between kept nodes has its number back

target_back : (fs : Flags) (t : Target) → is_kept fs (target_node t) ≡ true → whole_target (whole_number fs) (part_target fs t) ≡ t
target_back fs (Input node input) kept = ap (λ n. Input (record { 0 = n }) input) (whole-part fs node.0 kept)
target_back fs (to_param id) kept = ap (λ n. to_param (param_id n id.name)) (whole-part fs id.node.0 kept)

edge_back : (fs : Flags) (e : Edge) → is_kept_edge fs e ≡ true → whole_edge (whole_number fs) (part_edge fs e) ≡ e
edge_back fs e kept =
    let both = and_parts (is_kept fs e.from.0) (is_kept fs (target_node e.to)) kept in
    ap₂ (λ n t. let x : Edge = record { from = record { 0 = n }; output = e.output; to = t } in x) (whole-part fs e.from.0 both.0) (target_back fs e.to both.1)

map_back : {X Y : Type 0} (f : X → Y) (g : Y → X) (xs : List X) → ((x : X) → IsIn x xs → g (f x) ≡ x) → map g (map f xs) ≡ xs
map_back f g [] back = refl
map_back f g (x ∷ xs) back = ap₂ (λ y ys. y ∷ ys) (back x (inl refl)) (map_back f g xs (λ y h. back y (inr h)))

-- ---- what is said of an item does not hang on its number

same_part_of : {X Y : Type 0} (name : X → X) (f : X → Y) (o : Option X) → ((x : X) → f (name x) ≡ f x) → option_map f (option_map name o) ≡ option_map f o
same_part_of name f None same = refl
same_part_of name f (Some x) same = ap Some (same x)

module _ (fs : Flags) (part whole : World) (is : IsWithout fs part whole) (valid : IsValid whole) where
  abbrev size : ℕ
  size = length part.nodes

  -- ---- nodes

  long : length whole.graph.value.nodes ≡ length whole.nodes
  long = ap length valid.ports ∙ length-map whole.nodes ports_of

  there : (i : ℕ) → i < size ↔ whole_number fs i < length whole.nodes
  there i = (
    (λ l. (below_part fs i (length whole.nodes)).0 (subst (λ n. i < n) (nodes_count fs part whole is) l)),
    (λ l. subst (λ n. i < n) (sym (nodes_count fs part whole is)) ((below_part fs i (length whole.nodes)).1 l)),
  )

  same_kept : (n : ℕ) → n < length whole.nodes → is_numbered (whole_number fs) size n ≡ is_kept fs n
  same_kept n l = same_truth _ _
      (λ h. let found = kept_is (whole_number fs) size n h in subst (λ k. is_kept fs k ≡ true) (sym found.2) (whole_kept fs found.0))
      (λ kept. subst (λ k. is_numbered (whole_number fs) size k ≡ true) (whole-part fs n kept)
      (kept_there (whole_number fs) size (part_number fs n) (subst (λ k. part_number fs n < k) (sym (nodes_count fs part whole is)) (part_below fs n (length whole.nodes) kept l))))

  -- ---- connections

  same_source : (e : Edge) → IsIn e whole.graph.value.edges → is_numbered (whole_number fs) size e.from.0 ≡ is_kept fs e.from.0
  same_source e h = same_kept e.from.0 (subst (λ n. e.from.0 < n) long (valid.graph.places e h).from)

  same_target : (e : Edge) → IsIn e whole.graph.value.edges → is_numbered (whole_number fs) size (target_node e.to) ≡ is_kept fs (target_node e.to)
  same_target e h = same_kept (target_node e.to) (subst (λ n. target_node e.to < n) long (valid.graph.places e h).to)

  same_edges : map (whole_edge (whole_number fs)) part.graph.value.edges ≡ filter (is_numbered_edge (whole_number fs) size) whole.graph.value.edges
  same_edges =
      ap (λ (g : GraphView). map (whole_edge (whole_number fs)) g.value.edges) is.graph
      ∙ map_back (part_edge fs) (whole_edge (whole_number fs)) (filter (is_kept_edge fs) whole.graph.value.edges) (λ e h. edge_back fs e (IsIn-filter (is_kept_edge fs) whole.graph.value.edges e h).1)
      ∙ same_filter (is_kept_edge fs) (is_numbered_edge (whole_number fs) size) whole.graph.value.edges (λ e h. sym (ap₂ (λ a b. a && b) (same_source e h) (same_target e h)))

  -- ---- parameters and sources

  same_param_part : {Y : Type 0} (f : Param → Y) → ((p : Param) → f (renumbered_param fs p) ≡ f p) → (i : ℕ) (name : ParamName)
      → option_map f (find_param part.params.items (param_id i name)) ≡ option_map f (find_param whole.params.items (param_id (whole_number fs i) name))
  same_param_part f same i name =
      ap (λ k. option_map f (find_param part.params.items (param_id k name))) (sym (part-whole fs i))
      ∙ ap (option_map f) (param_found fs part whole (param_id (whole_number fs i) name) is (whole_kept fs i))
      ∙ same_part_of (renumbered_param fs) f (find_param whole.params.items (param_id (whole_number fs i) name)) same

  same_performance : (i : ℕ) → performance part i ≡ performance whole (whole_number fs i)
  same_performance i =
      ap (λ k. option_map (performance_of part.store) (find_play part.scheds.items k)) (sym (part-whole fs i))
      ∙ ap (option_map (performance_of part.store)) (play_found fs part whole (whole_number fs i) is (whole_kept fs i))
      ∙ by_play (find_play whole.scheds.items (whole_number fs i))
    where
      by_play : (o : Option Play) → option_map (performance_of part.store) (option_map (renumbered_play fs) o) ≡ option_map (performance_of whole.store) o
      by_play None = refl
      by_play (Some p) = ap (λ b. Some (let x : Performance = record { sched = unfired p.sched; buffer = b } in x)) (same_thawed part.store whole.store p.buffer is.store)

  pub is_part : IsPartOf (whole_number fs) part whole
  is_part = record {
    spec = is.spec;
    there = there;
    nodes = λ i l. ap (λ (ns : List Node). slice_index_or ns i no_node) is.nodes ∙ at_whole fs whole.nodes i no_node;
    closed = λ e h kept. same_source e h ∙ is.closed e h (sym (same_target e h) ∙ kept);
    edges = same_edges;
    lines = λ i name l. same_param_part (λ p. p.line) (λ p. refl) i name;
    rates = λ i name l. same_param_part (λ p. p.rate) (λ p. refl) i name;
    plays = λ i l. same_performance i;
  }
