-- A world stays valid when a node is created.
use Rattle.std.proofs.Common.{ℕ, ◌≡◌, ◌+◌, ◌<◌, length, List, [], ◌∷◌, ◌++◌, map, slice_index_or, true, false, Option, Some, None, inl, inr, refl, sym, ◌∙◌, ap, arith, subst, length-append}
use Rattle.std.specs.Prelude.{◌↔◌, is_some, option_map, unwrap_or}
use Rattle.std.specs.List.Sorted.{IsStrictlyIncreasing}
use Rattle.std.proofs.lemmas.Bool.{cases_lt}
use Rattle.std.proofs.lemmas.List.{append-nil, get_or_append_left, length-map, map-append}
use Rattle.std.proofs.Math.Seq.{get_or-append_seam}
use Rattle.wa_base.specs.declared.graph_names.ParamId.{ParamId}
use Rattle.wa_base.specs.declared.graph_names.ParamName.{ParamName}
use Rattle.law_base.specs.Members.{IsIn}
use Rattle.law_base.proofs.Members.{IsIn-append, IsIn-append_first, IsIn-append_second}
use Rattle.param_events.specs.Timeline.{IsTimeline}
use Rattle.node_table.specs.Kinds.{row, is_destination, param_name}
use Rattle.node_table.specs.declared.rows.ParamRow.{ParamRow}
use Rattle.node_table.specs.Nodes.{creation_refusal, node_of}
use Rattle.node_table.specs.declared.kinds.Kind.{Kind}
use Rattle.node_table.specs.declared.nodes.Node.{Node}
use Rattle.node_table.proofs.NodeLists.{room_left, ports_of_accepted, created_node, capacities_with, kept_with}
use Rattle.conn_graph.proofs.Graphs.{IsGraph-with_node}
use Rattle.meaning.specs.declared.world.World.{World}
use Rattle.meaning.specs.declared.params.Param.{Param}
use Rattle.meaning.specs.declared.scheds.Play.{Play}
use Rattle.meaning.specs.World.{no_node, is_source, param_id}
use Rattle.meaning.specs.Validity.{IsValid, IsPlayOf, HasNodes, HasParams, HasScheds, ports_of, param_ids, param_nodes, play_nodes}
use Rattle.meaning.specs.Changes.{new_params, plays_of, created}
use Rattle.meaning.proofs.FirstItems.{node}
use Rattle.meaning.proofs.ParamOrder.{rising_more, node_low}

-- a node that was there, and the new one
pub node_kept : (nodes : List Node) (n : Node) (i : ℕ) → i < length nodes → slice_index_or (nodes ++ n ∷ []) i no_node ≡ slice_index_or nodes i no_node
node_kept nodes n i below = get_or_append_left nodes (n ∷ []) no_node i below

pub node_new : (nodes : List Node) (n : Node) → slice_index_or (nodes ++ n ∷ []) (length nodes) no_node ≡ n
node_new nodes n = get_or-append_seam nodes n [] no_node

data Place (nodes : List Node) (i : ℕ) : Type 0 where
  there : i < length nodes → Place nodes i
  newest : i ≡ length nodes → Place nodes i

place_of : (nodes : List Node) (n : Node) (i : ℕ) → i < length (nodes ++ n ∷ []) → Place nodes i
place_of nodes n i below =
    let long = length-append nodes (n ∷ []) in
    elim (cases_lt i (length nodes)) [ inl l ↦ there l | inr l ↦ newest (omega arith) ]

-- the identities of the parameters of a new node
abbrev new_ids : ℕ → Option ParamRow → List ParamId
new_ids node p = map (λ (x : Param). x.id) (new_params node p)

new_id_node : (node : ℕ) (p : Option ParamRow) (id : ParamId) → IsIn id (new_ids node p) → id.node.0 ≡ node
new_id_node node None id is = absurd is
new_id_node node (Some p) id (inl same) = ap (λ (x : ParamId). x.node.0) same
new_id_node node (Some p) id (inr none) = absurd none

new_id_name : (node : ℕ) (p : ParamRow) (name : ParamName) → IsIn (param_id node name) (new_ids node (Some p)) → name ≡ p.name
new_id_name node p name (inl same) = ap (λ (x : ParamId). x.name) same
new_id_name node p name (inr none) = absurd none

-- a new node has the parameter of its kind
new_each : (node : ℕ) (p : Option ParamRow) (name : ParamName) → IsIn (param_id node name) (new_ids node p) ↔ (option_map (λ (x : ParamRow). x.name) p ≡ Some name)
new_each node None name = ((λ h. absurd h), (λ h. absurd cc))
new_each node (Some p) name = ((λ h. ap Some (sym (new_id_name node p name h))), (λ h. let same : p.name ≡ name = ap (λ (o : Option ParamName). unwrap_or o name) h in inl (ap (param_id node) (sym same))))

new_line : (node : ℕ) (p : Option ParamRow) (x : Param) → IsIn x (new_params node p) → IsTimeline x.line.events
new_line node None x is = absurd is
new_line node (Some p) x (inl same) = subst (λ (y : Param). IsTimeline y.line.events) (sym same) (record { begun = tt; ordered = tt })
new_line node (Some p) x (inr none) = absurd none

nodes_in_order : (count : ℕ) (nodes : List ℕ) (p : Option ParamRow) → IsStrictlyIncreasing nodes → ((i : ℕ) → IsIn i nodes → i < count) → IsStrictlyIncreasing (nodes ++ map node (new_params count p))
nodes_in_order count nodes None up low = rw (append-nil nodes) up
nodes_in_order count nodes (Some p) up low = rising_more nodes count up low

-- the node of its schedule
abbrev new_numbers : Option Play → List ℕ
new_numbers play = map (λ (p : Play). p.id.0) (plays_of play)

-- a schedule is one of a node
abbrev pub IsOwn : ℕ → Option Play → Type 0
IsOwn node play = (p : Play) → play ≡ Some p → p.id.0 ≡ node

number_is : (node i : ℕ) (play : Option Play) → IsOwn node play → IsIn i (new_numbers play) → (i ≡ node) × (is_some play ≡ true)
number_is node i (Some p) own (inl same) = (same ∙ own p refl, refl)
number_is node i (Some p) own (inr none) = absurd none
number_is node i None own none = absurd none

number_there : (node : ℕ) (play : Option Play) → IsOwn node play → is_some play ≡ true → IsIn node (new_numbers play)
number_there node (Some p) own is = inl (sym (own p refl))
number_there node None own is = absurd cc

numbers_rise : (node : ℕ) (numbers : List ℕ) (play : Option Play) → IsOwn node play → IsStrictlyIncreasing numbers → ((i : ℕ) → IsIn i numbers → i < node) → IsStrictlyIncreasing (numbers ++ new_numbers play)
numbers_rise node numbers None own up low = rw (append-nil numbers) up
numbers_rise node numbers (Some p) own up low = rising_more numbers p.id.0 up (λ i h. let l = low i h in let is = own p refl in omega (arith, l, is))

the_play : (play : Option Play) (p : Play) → IsIn p (plays_of play) → play ≡ Some p
the_play (Some q) p (inl same) = ap Some (sym same)
the_play (Some q) p (inr none) = absurd none
the_play None p none = absurd none

number_in : (plays : List Play) (p : Play) → IsIn p plays → IsIn p.id.0 (map (λ (q : Play). q.id.0) plays)
number_in [] p is = absurd is
number_in (q ∷ qs) p (inl same) = inl (ap (λ (x : Play). x.id.0) same)
number_in (q ∷ qs) p (inr is) = inr (number_in qs p is)

-- what is asked of the schedule of a new node
pub record IsNewPlay (w : World) (kind : Kind) (play : Option Play) : Type 0 where
  pub own : IsOwn (length w.nodes) play
  pub sources : is_some play ≡ is_source kind
  pub fits : (p : Play) → play ≡ Some p → IsPlayOf w.store kind p

module _ (w : World) (kind : Kind) (play : Option Play) (new : IsNewPlay w kind play) (now : ℕ) (valid : IsValid w) (other : is_destination kind ≡ false)
    (accepted : creation_refusal w.nodes kind ≡ None) where
  abbrev count : ℕ
  count = length w.nodes

  abbrev more : List Node
  more = w.nodes ++ node_of kind now ∷ []

  few : count < 1024
  few = room_left w.nodes kind accepted

  long : length more ≡ count + 1
  long = length-append w.nodes (node_of kind now ∷ [])

  kept : (i : ℕ) → i < count → slice_index_or more i no_node ≡ slice_index_or w.nodes i no_node
  kept i below = node_kept w.nodes (node_of kind now) i below

  last : (i : ℕ) → i ≡ count → slice_index_or more i no_node ≡ node_of kind now
  last i is = ap (λ k. slice_index_or more k no_node) is ∙ node_new w.nodes (node_of kind now)

  created_nodes : HasNodes (created w kind play now)
  created_nodes = record {
    some = let l = valid.nodes.some in omega (arith, long);
    few = omega (arith, long, few);
    kept = let kept = kept_with w.nodes kind accepted in omega (arith, capacities_with w.nodes kind now);
    first = rw (kept 0 valid.nodes.some) valid.nodes.first;
    others = λ i low high. elim (place_of w.nodes (node_of kind now) i high) [
      | there l ↦ rw (kept i l) (valid.nodes.others i low l)
      | newest is ↦ rw (last i is) (created_node kind now other (ports_of_accepted w.nodes kind accepted))
    ];
  }

  ids : param_ids (created w kind play now) ≡ param_ids w ++ new_ids count (row kind).param
  ids = map-append (λ (x : Param). x.id) w.params.items (new_params count (row kind).param)

  nodes : param_nodes (created w kind play now) ≡ param_nodes w ++ map node (new_params count (row kind).param)
  nodes = map-append node w.params.items (new_params count (row kind).param)

  created_each : (i : ℕ) (name : ParamName) → Place w.nodes i → IsIn (param_id i name) (param_ids w ++ new_ids count (row kind).param) ↔ (param_name (slice_index_or more i no_node).kind ≡ Some name)
  created_each i name (there l) =
      rw (kept i l) (
        (λ h. elim (IsIn-append (param_ids w) _ _ h) [
          | inl k ↦ (valid.params.each i name l).0 k
          | inr k ↦ let e = new_id_node count (row kind).param (param_id i name) k in absurd (omega arith)
        ]),
        (λ h. IsIn-append_first _ _ _ ((valid.params.each i name l).1 h)),
      )
  created_each i name (newest is) =
      rw (last i is) (
        (λ h. elim (IsIn-append (param_ids w) _ _ h) [
          | inl k ↦ let l = valid.params.there (param_id i name) k in absurd (omega arith)
          | inr k ↦ (new_each count (row kind).param name).0 (subst (λ j. IsIn (param_id j name) (new_ids count (row kind).param)) is k)
        ]),
        (λ h. IsIn-append_second _ _ _ (subst (λ j. IsIn (param_id j name) (new_ids count (row kind).param)) (sym is) ((new_each count (row kind).param name).1 h))),
      )

  created_params : HasParams (created w kind play now)
  created_params = record {
    each = λ i name below. rw ids (created_each i name (place_of w.nodes (node_of kind now) i below));
    there = λ id is. elim (IsIn-append (param_ids w) _ _ (subst (λ xs. IsIn id xs) ids is)) [
      | inl k ↦ let l = valid.params.there id k in omega (arith, long)
      | inr k ↦ let e = new_id_node count (row kind).param id k in omega (arith, long)
    ];
    order = rw nodes (nodes_in_order count (param_nodes w) (row kind).param valid.params.order (λ i h. node_low w.params.items count i valid.params.there h));
    lines = λ p is. elim (IsIn-append w.params.items _ p is) [ inl k ↦ valid.params.lines p k | inr k ↦ new_line count (row kind).param p k ];
    targets = λ e id is leads. rw ids (IsIn-append_first _ _ _ (valid.params.targets e id is leads));
  }

  numbers : play_nodes (created w kind play now) ≡ play_nodes w ++ new_numbers play
  numbers = map-append (λ (x : Play). x.id.0) w.scheds.items (plays_of play)

  from_numbers : (i : ℕ) → IsIn i (play_nodes w ++ new_numbers play) → (i < length more) × (is_source (slice_index_or more i no_node).kind ≡ true)
  from_numbers i h = elim (IsIn-append (play_nodes w) _ _ h) [
    | inl k ↦ let there = (valid.scheds.each i).0 k in (let l = there.0 in omega (arith, long), rw (kept i there.0) there.1)
    | inr k ↦ let is = number_is count i play new.own k in (let e = is.0 in omega (arith, long), rw (last i is.0) (sym new.sources ∙ is.1))
  ]

  to_numbers : (i : ℕ) → Place w.nodes i → is_source (slice_index_or more i no_node).kind ≡ true → IsIn i (play_nodes w ++ new_numbers play)
  to_numbers i (there l) source = IsIn-append_first _ _ _ ((valid.scheds.each i).1 (l, rw (kept i l) at source))
  to_numbers i (newest is) source =
      IsIn-append_second _ _ _ (subst (λ j. IsIn j (new_numbers play)) (sym is) (number_there count play new.own (new.sources ∙ (rw (last i is) at source))))

  created_kinds : (p : Play) → IsIn p (w.scheds.items ++ plays_of play) → IsPlayOf w.store (slice_index_or more p.id.0 no_node).kind p
  created_kinds p is = elim (IsIn-append w.scheds.items _ p is) [
    | inl k ↦ subst (λ (n : Node). IsPlayOf w.store n.kind p) (sym (kept p.id.0 ((valid.scheds.each p.id.0).0 (number_in w.scheds.items p k)).0)) (valid.scheds.kinds p k)
    | inr k ↦ subst (λ (n : Node). IsPlayOf w.store n.kind p) (sym (last p.id.0 (new.own p (the_play play p k)))) (new.fits p (the_play play p k))
  ]

  created_scheds : HasScheds (created w kind play now)
  created_scheds = record {
    each = λ i. rw numbers ((λ h. from_numbers i h), (λ h. to_numbers i (place_of w.nodes (node_of kind now) i h.0) h.1));
    order = rw numbers (numbers_rise count (play_nodes w) play new.own valid.scheds.order (λ i h. ((valid.scheds.each i).0 h).0));
    kinds = created_kinds;
  }

  pub created_valid : IsValid (created w kind play now)
  created_valid = record {
    spec = valid.spec;
    nodes = created_nodes;
    graph = IsGraph-with_node w.graph.value (ports_of (node_of kind now)) valid.graph (let l = ap length valid.ports ∙ length-map w.nodes ports_of in omega (arith, few));
    ports = ap (λ ps. ps ++ ports_of (node_of kind now) ∷ []) valid.ports ∙ sym (map-append ports_of w.nodes (node_of kind now ∷ []));
    params = created_params;
    scheds = created_scheds;
    store = valid.store;
  }
