-- What is connected in a part, and in the whole.
use Rattle.std.proofs.Common.{ℕ, ◌≡◌, ◌<◌, length, map, filter, Bool, true, refl, sym, ◌∙◌, ap, subst}
use Rattle.law_base.specs.Members.{IsIn}
use Rattle.law_base.proofs.Members.{IsIn-filter, IsIn-filter_from}
use Rattle.law_base.proofs.Tests.{and_both}
use Rattle.wa_base.specs.declared.graph_names.End.{End}
use Rattle.wa_base.specs.declared.graph_names.ParamName.{ParamName}
use Rattle.node_table.specs.Kinds.{is_delay_kind}
use Rattle.node_table.specs.declared.nodes.Node.{Node}
use Rattle.conn_graph.specs.declared.edges.Edge.{Edge}
use Rattle.conn_graph.specs.declared.edges.Target.{Target}
use Rattle.conn_graph.specs.declared.edges.Target.TheVariants.{Input, Param}
use Rattle.conn_graph.specs.Edges.{target_node, is_input, is_param}
use Rattle.conn_graph.specs.Graph.{Connections, edges_to_input, edges_to_param}
use Rattle.conn_graph.specs.Ends.{reader_of, ends, is_delay, input_end, arrives_at}
use Rattle.conn_graph.proofs.EndLaws.{end_is, has_end}
use Rattle.conn_graph.proofs.EndOrders.{IsIn-ends}
use Rattle.meaning.specs.declared.world.World.{World}
use Rattle.meaning.specs.World.{kind_of, param_id}
use Rattle.meaning.specs.Validity.{IsJoined}
use Rattle.prune.specs.Parts.{Numbering, whole_end, whole_target, whole_edge, is_kept, is_kept_edge, IsPartOf}
use Rattle.prune.proofs.Members.{IsIn-map, map-IsIn, filter-map, same_filter, filter_within}
use Rattle.prune.proofs.Numbers.{IsRising, kept_there, same_input, same_param, input_node, param_node}

-- what the laws use of a part and its whole
pub record Parted (r : Numbering) (part whole : World) : Type 0 where
  pub rising : IsRising r
  pub is : IsPartOf r part whole
  pub joined : IsJoined part
  pub joined_whole : IsJoined whole
  pub size : length part.graph.value.nodes ≡ length part.nodes
  pub size_whole : length whole.graph.value.nodes ≡ length whole.nodes

module _ (r : Numbering) (part whole : World) (parted : Parted r part whole) where
  abbrev inner : Connections
  inner = part.graph.value

  abbrev outer : Connections
  outer = whole.graph.value

  abbrev is : IsPartOf r part whole
  is = parted.is

  -- ---- nodes and ends

  pub node_there : (n : ℕ) → n < length inner.nodes → n < length part.nodes
  node_there n l = subst (λ k. n < k) parted.size l

  pub whole_there : (n : ℕ) → n < length part.nodes → r n < length outer.nodes
  whole_there n l = subst (λ k. r n < k) (sym parted.size_whole) ((is.there n).0 l)

  pub same_kind : (n : ℕ) → n < length part.nodes → kind_of part n ≡ kind_of whole (r n)
  same_kind n l = ap (λ (x : Node). x.kind) (is.nodes n l)

  pub same_delay : (n : ℕ) → n < length part.nodes → is_delay inner n ≡ is_delay outer (r n)
  same_delay n l = parted.joined.delays n ∙ ap is_delay_kind (same_kind n l) ∙ sym (parted.joined_whole.delays (r n))

  pub end_there : (e : End) → IsIn e (ends inner) → e.node.0 < length part.nodes
  end_there e h = node_there e.node.0 (end_is inner e h).0

  pub end_within : (e : End) → IsIn e (ends inner) → IsIn (whole_end r e) (ends outer)
  end_within e h =
      let l = end_there e h in
      (IsIn-ends outer (whole_end r e)).1 (whole_there e.node.0 l, λ t. sym (same_delay e.node.0 l) ∙ (end_is inner e h).1 t)

  pub reader_there : (n : ℕ) → n < length part.nodes → IsIn (reader_of n) (ends inner)
  reader_there n l = has_end inner n (subst (λ k. n < k) (sym parted.size) l)

  pub same_input_end : (n : ℕ) → n < length part.nodes → input_end outer (r n) ≡ whole_end r (input_end inner n)
  same_input_end n l = ap (λ b. let x : End = record { node = record { 0 = r n }; writer = b } in x) (sym (same_delay n l))

  pub same_arrival : (t : Target) → target_node t < length part.nodes → arrives_at outer (whole_target r t) ≡ whole_end r (arrives_at inner t)
  same_arrival (Input node input) l = same_input_end node.0 l
  same_arrival (Param param) l = refl

  -- ---- connections

  -- a connection of the part
  pub source_there : (x : Edge) → IsIn x inner.edges → x.from.0 < length part.nodes
  source_there x h = node_there x.from.0 (parted.joined.places x h).from

  pub target_there : (x : Edge) → IsIn x inner.edges → target_node x.to < length part.nodes
  target_there x h = node_there (target_node x.to) (parted.joined.places x h).to

  pub edge_within : (x : Edge) → IsIn x inner.edges → IsIn (whole_edge r x) outer.edges
  edge_within x h = (IsIn-filter (is_kept_edge r (length part.nodes)) outer.edges (whole_edge r x) (subst (IsIn (whole_edge r x)) is.edges (IsIn-map (whole_edge r) inner.edges x h))).0

  kept_edge : (y : Edge) → IsIn y outer.edges → is_kept r (length part.nodes) (target_node y.to) ≡ true → is_kept_edge r (length part.nodes) y ≡ true
  kept_edge y h kept = and_both _ _ (is.closed y h kept) kept

  -- a connection of the whole to a node of the part is one of the part
  pub edge_back : (y : Edge) → IsIn y outer.edges → (n : ℕ) → n < length part.nodes → target_node y.to ≡ r n → (x : Edge) × IsIn x inner.edges × (y ≡ whole_edge r x)
  edge_back y h n l to =
      let kept : is_kept r (length part.nodes) (target_node y.to) ≡ true = subst (λ k. is_kept r (length part.nodes) k ≡ true) (sym to) (kept_there r (length part.nodes) n l) in
      map-IsIn (whole_edge r) inner.edges y (subst (IsIn y) (sym is.edges) (IsIn-filter_from (is_kept_edge r (length part.nodes)) outer.edges y h (kept_edge y h kept)))

  -- What passes a test, which only connections to kept nodes do, is in the whole what it is in the part.
  same_edges : (p : Edge → Bool) (s : Edge → Bool) → ((y : Edge) → p y ≡ true → is_kept r (length part.nodes) (target_node y.to) ≡ true) → ((x : Edge) → p (whole_edge r x) ≡ s x)
      → filter p outer.edges ≡ map (whole_edge r) (filter s inner.edges)
  same_edges p s kept same =
      sym (filter_within p (is_kept_edge r (length part.nodes)) outer.edges (λ y h t. kept_edge y h (kept y t)))
      ∙ ap (filter p) (sym is.edges)
      ∙ filter-map p (whole_edge r) inner.edges
      ∙ ap (map (whole_edge r)) (same_filter (λ x. p (whole_edge r x)) s inner.edges (λ x h. same x))

  -- the connections to an input, and to a parameter
  pub same_inputs : (n i : ℕ) → n < length part.nodes → edges_to_input outer (r n) i ≡ map (whole_edge r) (edges_to_input inner n i)
  same_inputs n i l = same_edges (λ e. is_input (r n) i e.to) (λ e. is_input n i e.to)
      (λ y t. subst (λ k. is_kept r (length part.nodes) k ≡ true) (sym (input_node (r n) i y.to t)) (kept_there r (length part.nodes) n l))
      (λ x. same_input r parted.rising n i x.to)

  pub same_params : (n : ℕ) (name : ParamName) → n < length part.nodes → edges_to_param outer (param_id (r n) name) ≡ map (whole_edge r) (edges_to_param inner (param_id n name))
  same_params n name l = same_edges (λ e. is_param (param_id (r n) name) e.to) (λ e. is_param (param_id n name) e.to)
      (λ y t. subst (λ k. is_kept r (length part.nodes) k ≡ true) (sym (param_node (param_id (r n) name) y.to t)) (kept_there r (length part.nodes) n l))
      (λ x. same_param r parted.rising (param_id n name) x.to)
