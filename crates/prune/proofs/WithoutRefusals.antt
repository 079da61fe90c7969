-- What a world accepts, the one without the nodes that are not kept accepts.
use Rattle.std.proofs.Common.{ℕ, ◌≡◌, ◌<◌, ◌≤◌, ◌+◌, ◌*◌, length, List, filter, not, Bool, true, false, Option, Some, None, option_map, option_and_then, IfSome, refl, sym, ◌∙◌, ap, ap₂, subst, arith}
use Rattle.std.specs.Prelude.{unwrap_or, ◌==◌, ◌&&◌, nat_le, nat_lt, if◌then◌else◌, is_some}
use Rattle.std.specs.List.{list_any}
use Rattle.std.specs.Option.{option_map_or, option_or}
use Rattle.std.proofs.lemmas.Bool.Decides.{nat_tests}
use Rattle.std.proofs.lemmas.List.{length-map}
use Rattle.wa_base.specs.declared.contexts.ContextSpec.{ContextSpec}
use Rattle.wa_base.specs.declared.exceptions.Exc.{Exc}
use Rattle.wa_base.specs.declared.exceptions.Exc.TheVariants.{NotSupported, IndexSize, InvalidAccess, InvalidState}
use Rattle.wa_base.specs.declared.features.Feature.TheVariants.{NodeLimit, DelayLimit, Resampling, LateBuffer, ConnectionLimit, BufferLimit, DestinationOutput, ResponseChannels}
use Rattle.wa_base.specs.declared.graph_names.BufId.{BufId}
use Rattle.wa_base.specs.declared.graph_names.NodeId.{NodeId}
use Rattle.wa_base.specs.declared.graph_names.ParamId.{ParamId}
use Rattle.law_base.proofs.Tests.{and_parts, and_both}
use Rattle.buffer_store.specs.Buffers.{is_supported}
use Rattle.node_table.specs.Kinds.{range_refusal, capacity_of}
use Rattle.node_table.specs.Nodes.{capacities, node_limit_refusal, delay_limit_refusal, creation_refusal, refusal_at, curve_refusal}
use Rattle.node_table.specs.declared.kinds.Kind.{Kind}
use Rattle.node_table.specs.declared.kinds.Kind.TheVariants.{Buffer, Causal}
use Rattle.node_table.specs.declared.equation.Equation.TheVariants.{Convolution}
use Rattle.node_table.specs.declared.nodes.Node.{Node}
use Rattle.node_table.proofs.NodeLists.{second_none, ports_of_accepted, room_left, kept_with}
use Rattle.conn_graph.specs.declared.edges.Edge.{Edge}
use Rattle.conn_graph.specs.declared.edges.Form.{Form}
use Rattle.conn_graph.specs.declared.edges.Form.TheVariants as form
use Rattle.conn_graph.specs.declared.edges.Ports.{Ports}
use Rattle.conn_graph.specs.declared.edges.Target.{Target}
use Rattle.conn_graph.specs.declared.edges.Target.TheVariants.{Input, Param as to_param}
use Rattle.conn_graph.specs.Edges.{target_node, is_meant, is_named, form_node, form_output, form_input, names_a_target}
use Rattle.conn_graph.specs.Graph.{Connections, no_ports, ports_at, has_edge, lacks_input, connect_refusal, disconnect_refusal}
use Rattle.conn_graph.specs.Walks.{GraphView}
use Rattle.conn_graph.proofs.EndLaws.{nat_same}
use Rattle.meaning.specs.declared.automation.ParamEdit.{ParamEdit}
use Rattle.meaning.specs.declared.buffers.BufferEdit.{BufferEdit}
use Rattle.meaning.specs.declared.buffers.BufferEdit.TheVariants as buffer_edit
use Rattle.meaning.specs.declared.change.Edit.{Edit}
use Rattle.meaning.specs.declared.change.Edit.TheVariants as edit
use Rattle.meaning.specs.declared.params.Param.{Param}
use Rattle.meaning.specs.declared.scheds.Play.{Play}
use Rattle.meaning.specs.declared.sources.SourceEdit.{SourceEdit}
use Rattle.meaning.specs.declared.sources.SourceEdit.TheVariants as source
use Rattle.meaning.specs.declared.world.World.{World}
use Rattle.meaning.specs.Automation.{param_refusal, automation_refusal}
use Rattle.meaning.specs.Changes.{output_refusal, attribute_refusal, refusal}
use Rattle.meaning.specs.Convolvers.{convolver_of, response_channels_refusal, convolver_refusal}
use Rattle.meaning.specs.Sources.{resampling_refusal, of_source, source_refusal, source_creation_refusal, buffers_refusal}
use Rattle.meaning.specs.World.{find_param, find_play, of_buffer}
use Rattle.prune.proofs.Flags.{Flags, is_kept, part_number, same_zero}
use Rattle.prune.proofs.Filtered.{kept_of, at_part, get_part, sum_of_kept, length_of_kept, length-filter, any_named}
use Rattle.prune.proofs.Without.{part_param, part_target, part_edge, part_form, part_edit, is_kept_edge, renumbered_param, renumbered_play, connections_without, IsWithout, IsHeardEdit}
use Rattle.prune.proofs.Thawing.{same_of_buffer, same_total, may_be_written}
use Rattle.prune.proofs.WithoutConnections.{has_edge_named, is_named_named, meant_is}
use Rattle.prune.proofs.WithoutFacts.{channels_kept, samples_kept, param_found, play_found}

-- ---- creation

-- of two causes neither comes
neither : (a b : Option Exc) → a ≡ None → b ≡ None → option_or a b ≡ None
neither a b none none' = ap (λ o. option_or o b) none ∙ none'

first_none : (a b : Option Exc) → option_or a b ≡ None → a ≡ None
first_none None b fine = refl
first_none (Some exc) b fine = absurd cc

-- fewer nodes have room where more have
room_in_fewer : (ns ms : List Node) (kind : Kind) → length ns ≤ length ms → capacities ns ≤ capacities ms → creation_refusal ms kind ≡ None → creation_refusal ns kind ≡ None
room_in_fewer ns ms kind fewer less fine = neither (range_refusal kind) _ (ports_of_accepted ms kind fine) (neither (node_limit_refusal ns) (delay_limit_refusal ns (capacity_of kind)) few kept)
  where
    few : node_limit_refusal ns ≡ None
    few =
        let room = room_left ms kind fine in
        let low : length ns < 1024 = omega (arith, room) in
        let is : nat_lt (length ns) 1024 ≡ true = grind (arith, nat_tests, low) in
        ap (λ b. if b then None else Some (NotSupported (Some NodeLimit))) is

    kept : delay_limit_refusal ns (capacity_of kind) ≡ None
    kept =
        let room = kept_with ms kind fine in
        let low : capacities ns + capacity_of kind ≤ 4194304 = omega (arith, room) in
        let is : nat_le (capacities ns + capacity_of kind) 4194304 ≡ true = grind (arith, nat_tests, low) in
        ap (λ b. if b then None else Some (NotSupported (Some DelayLimit))) is

module _ (fs : Flags) (part whole : World) (is : IsWithout fs part whole) where
  creation_fine : (kind : Kind) → creation_refusal whole.nodes kind ≡ None → creation_refusal part.nodes kind ≡ None
  creation_fine kind fine =
      subst (λ ns. creation_refusal ns kind ≡ None) (sym is.nodes)
      (room_in_fewer (kept_of fs whole.nodes) whole.nodes kind (length_of_kept fs whole.nodes) (sum_of_kept (λ (n : Node). capacity_of n.kind) fs whole.nodes) fine)

  same_resampling : (buffer : Option BufId) → resampling_refusal part buffer ≡ resampling_refusal whole buffer
  same_resampling buffer =
      ap (λ (s : ContextSpec). if of_buffer (λ b. b.shape.rate == s.rate) true part.store buffer then None else Some (NotSupported (Some Resampling))) is.spec
      ∙ ap (λ b. if b then None else Some (NotSupported (Some Resampling))) (same_of_buffer (λ b. b.shape.rate == whole.spec.rate) true (λ b. refl) part.store whole.store buffer is.store)

  source_creation_fine : (rate : ℕ) (buffer : Option BufId) → source_creation_refusal whole rate buffer ≡ None → source_creation_refusal part rate buffer ≡ None
  source_creation_fine rate buffer fine =
      let rest = second_none (range_refusal (Buffer rate)) _ fine in
      neither (range_refusal (Buffer rate)) _ (first_none (range_refusal (Buffer rate)) _ fine)
      (neither (resampling_refusal part buffer) _ (same_resampling buffer ∙ first_none (resampling_refusal whole buffer) _ rest) (creation_fine (Buffer rate) (second_none (resampling_refusal whole buffer) _ rest)))

  convolver_fine : (buffer : Option BufId) → convolver_refusal whole buffer ≡ None → convolver_refusal part buffer ≡ None
  convolver_fine buffer fine =
      let rest = second_none (response_channels_refusal whole.store buffer) _ fine in
      neither (response_channels_refusal part.store buffer) _
      (ap (λ n. if nat_le n 1 then None else Some (NotSupported (Some ResponseChannels))) (channels_kept fs part whole is buffer) ∙ first_none (response_channels_refusal whole.store buffer) _ fine)
      (neither (resampling_refusal part buffer) _ (same_resampling buffer ∙ first_none (resampling_refusal whole buffer) _ rest)
      (creation_fine (convolver_of part.store buffer) (subst (λ kind. creation_refusal whole.nodes kind ≡ None) (sym same_kind) (second_none (resampling_refusal whole buffer) _ rest))))
    where
      same_kind : convolver_of part.store buffer ≡ convolver_of whole.store buffer
      same_kind = ap (λ response. Causal (Convolution response)) (samples_kept fs part whole is buffer 0)

  -- ---- sources, parameters, nodes and buffers

  same_source_refusal : (e : SourceEdit) (o : Option Play) → source_refusal part e (option_map (renumbered_play fs) o) ≡ source_refusal whole e o
  same_source_refusal e None = refl
  same_source_refusal (source.Start when offset duration) (Some p) = refl
  same_source_refusal (source.Stop when) (Some p) = refl
  same_source_refusal (source.SetBuffer buffer) (Some p) =
      ap (λ r. of_source p (if is_some buffer && p.was_set then Some InvalidState else if is_some p.sched.start then Some (NotSupported (Some LateBuffer)) else r)) (same_resampling buffer)
  same_source_refusal (source.SetLoop part) (Some p) = refl

  source_same : (node : NodeId) (e : SourceEdit) → is_kept fs node.0 ≡ true → source_refusal part e (find_play part.scheds.items (part_number fs node.0)) ≡ source_refusal whole e (find_play whole.scheds.items node.0)
  source_same node e kept = ap (source_refusal part e) (play_found fs part whole node.0 is kept) ∙ same_source_refusal e (find_play whole.scheds.items node.0)

  param_same : (now : ℕ) (id : ParamId) (e : ParamEdit) → is_kept fs id.node.0 ≡ true → automation_refusal part now (part_param fs id) e ≡ automation_refusal whole now id e
  param_same now id e kept = ap (option_and_then (param_refusal now e)) (param_found fs part whole id is kept) ∙ by_param (find_param whole.params.items id)
    where
      by_param : (o : Option Param) → option_and_then (param_refusal now e) (option_map (renumbered_param fs) o) ≡ option_and_then (param_refusal now e) o
      by_param None = refl
      by_param (Some p) = refl

  node_same : (node : NodeId) (others : Node → Option Exc) → is_kept fs node.0 ≡ true → refusal_at part.nodes (part_number fs node.0) others ≡ refusal_at whole.nodes node.0 others
  node_same node others kept = ap (λ ns. refusal_at ns (part_number fs node.0) others) is.nodes ∙ ap (option_and_then others) (get_part fs whole.nodes node.0 kept)

  buffers_fine : (e : BufferEdit) → buffers_refusal whole.store e ≡ None → buffers_refusal part.store e ≡ None
  buffers_fine (buffer_edit.Create channels frames rate) fine =
      ap (λ t. if not (is_supported channels frames rate) then Some (NotSupported None) else if nat_le (t + channels * frames) 134217728 then None else Some (NotSupported (Some BufferLimit)))
      (same_total part.store whole.store is.store)
      ∙ fine
  buffers_fine (buffer_edit.Adopt wav) fine =
      ap (λ t. if nat_le (t + wav.channels * wav.frames) 134217728 then None else Some (NotSupported (Some BufferLimit))) (same_total part.store whole.store is.store) ∙ fine
  buffers_fine (buffer_edit.Write buffer channel samples first) fine = may_be_written buffer.0 channel part.store whole.store is.store fine

-- ---- connections

-- of three causes none comes, where the last one comes no sooner
none_of_three : (x y z : Exc) (a b c d : Bool) → (d ≡ true → c ≡ true) → (if a then Some x else if b then Some y else if c then Some z else None) ≡ None
    → (if a then Some x else if b then Some y else if d then Some z else None) ≡ None
none_of_three x y z true b c d less fine = absurd cc
none_of_three x y z false true c d less fine = absurd cc
none_of_three x y z false false c false less fine = refl
none_of_three x y z false false true true less fine = absurd cc
none_of_three x y z false false false true less fine = absurd (let t = less refl in cc)

module _ (fs : Flags) (g : Connections) where
  abbrev inner : Connections
  inner = connections_without fs g

  ports_named : (n : ℕ) → is_kept fs n ≡ true → ports_at inner (part_number fs n) ≡ ports_at g n
  ports_named n kept = at_part fs g.nodes n no_ports kept

  input_lacks : (t : Target) → is_kept fs (target_node t) ≡ true → lacks_input inner (part_target fs t) ≡ lacks_input g t
  input_lacks (Input node input) kept = ap (λ (p : Ports). not (nat_lt input p.inputs)) (ports_named node.0 kept)
  input_lacks (to_param id) kept = refl

  fewer_edges : length inner.edges ≤ length g.edges
  fewer_edges = let same = length-map (filter (is_kept_edge fs) g.edges) (part_edge fs) in let l = length-filter (is_kept_edge fs) g.edges in omega (arith, same, l)

  connect_fine : (e : Edge) → is_kept fs e.from.0 ≡ true → is_kept fs (target_node e.to) ≡ true → connect_refusal g e ≡ None → connect_refusal inner (part_edge fs e) ≡ None
  connect_fine e from to fine =
      ap₂ (λ a b. if a then Some IndexSize else if b then Some IndexSize else if full then Some (NotSupported (Some ConnectionLimit)) else None)
      (ap (λ (p : Ports). not (nat_lt e.output p.outputs)) (ports_named e.from.0 from)) (input_lacks e.to to)
      ∙ none_of_three IndexSize IndexSize (NotSupported (Some ConnectionLimit)) _ _ _ full no_sooner fine
    where
      full : Bool
      full = not (has_edge inner (part_edge fs e)) && nat_le 8192 (length inner.edges)

      no_sooner : full ≡ true → (not (has_edge g e) && nat_le 8192 (length g.edges)) ≡ true
      no_sooner is =
          let parts = and_parts (not (has_edge inner (part_edge fs e))) (nat_le 8192 (length inner.edges)) is in
          let high : 8192 ≤ length inner.edges = let t = parts.1 in grind (arith, nat_tests) in
          let higher : 8192 ≤ length g.edges = let l = fewer_edges in omega (arith, high, l) in
          and_both (not (has_edge g e)) (nat_le 8192 (length g.edges)) (ap not (sym (has_edge_named fs g e (and_both _ _ from to))) ∙ parts.0) (grind (arith, nat_tests, higher))

  -- ---- disconnections

  module _ (from : ℕ) (source : is_kept fs from ≡ true) where
    any_same : (f : Form) (n : ℕ) → form_node f ≡ Some n → is_kept fs n ≡ true → IfSome (form_node f) (λ node. is_kept fs node ≡ true)
        → list_any (is_named (part_number fs from) (part_form fs f)) inner.edges ≡ list_any (is_named from f) g.edges
    any_same f n node kept each =
        any_named (is_kept_edge fs) (part_edge fs) (is_named (part_number fs from) (part_form fs f)) (is_named from f) g.edges
        (λ x h too. is_named_named fs from f x source each too)
        (λ x h named.
        let parts = and_parts (x.from.0 == from) (is_meant f x) named in
        let to : target_node x.to ≡ n = ap (λ o. unwrap_or o n) (meant_is fs f x n node parts.1) in
        and_both _ _ (subst (λ k. is_kept fs k ≡ true) (sym (nat_same x.from.0 from parts.0)) source) (subst (λ k. is_kept fs k ≡ true) (sym to) kept))

    missing_same : (f : Form) → IfSome (form_node f) (λ node. is_kept fs node ≡ true)
        → (names_a_target (part_form fs f) && not (list_any (is_named (part_number fs from) (part_form fs f)) inner.edges)) ≡ (names_a_target f && not (list_any (is_named from f) g.edges))
    missing_same form.All kept = refl
    missing_same (form.Output output) kept = refl
    missing_same (form.Node node) kept = ap not (any_same (form.Node node) node.0 refl kept kept)
    missing_same (form.NodeOutput node output) kept = ap not (any_same (form.NodeOutput node output) node.0 refl kept kept)
    missing_same (form.NodeOutputInput node output input) kept = ap not (any_same (form.NodeOutputInput node output input) node.0 refl kept kept)
    missing_same (form.Param id) kept = ap not (any_same (form.Param id) id.node.0 refl kept kept)
    missing_same (form.ParamOutput id output) kept = ap not (any_same (form.ParamOutput id output) id.node.0 refl kept kept)

    abbrev lacks_output : Connections → ℕ → Option ℕ → Bool
    lacks_output h n output = option_map_or (λ output. not (nat_lt output (ports_at h n).outputs)) output false

    abbrev lacks_an_input : Connections → Option (ℕ × ℕ) → Bool
    lacks_an_input h input = option_map_or (λ input. not (nat_lt input.1 (ports_at h input.0).inputs)) input false

    output_same : (f : Form) → lacks_output inner (part_number fs from) (form_output (part_form fs f)) ≡ lacks_output g from (form_output f)
    output_same form.All = refl
    output_same (form.Output output) = ap (λ (p : Ports). not (nat_lt output p.outputs)) (ports_named from source)
    output_same (form.Node node) = refl
    output_same (form.NodeOutput node output) = ap (λ (p : Ports). not (nat_lt output p.outputs)) (ports_named from source)
    output_same (form.NodeOutputInput node output input) = ap (λ (p : Ports). not (nat_lt output p.outputs)) (ports_named from source)
    output_same (form.Param id) = refl
    output_same (form.ParamOutput id output) = ap (λ (p : Ports). not (nat_lt output p.outputs)) (ports_named from source)

    input_same : (f : Form) → IfSome (form_node f) (λ node. is_kept fs node ≡ true) → lacks_an_input inner (form_input (part_form fs f)) ≡ lacks_an_input g (form_input f)
    input_same form.All kept = refl
    input_same (form.Output output) kept = refl
    input_same (form.Node node) kept = refl
    input_same (form.NodeOutput node output) kept = refl
    input_same (form.NodeOutputInput node output input) kept = ap (λ (p : Ports). not (nat_lt input p.inputs)) (ports_named node.0 kept)
    input_same (form.Param id) kept = refl
    input_same (form.ParamOutput id output) kept = refl

    disconnect_same : (f : Form) → IfSome (form_node f) (λ node. is_kept fs node ≡ true) → disconnect_refusal inner (part_number fs from) (part_form fs f) ≡ disconnect_refusal g from f
    disconnect_same f kept =
        ap₂ (λ a b. if a then Some IndexSize else if b then Some IndexSize else if names_a_target (part_form fs f) && not (list_any (is_named (part_number fs from) (part_form fs f)) inner.edges) then Some InvalidAccess else None)
        (output_same f) (input_same f kept)
        ∙ ap (λ c. if lacks_output g from (form_output f) then Some IndexSize else if lacks_an_input g (form_input f) then Some IndexSize else if c then Some InvalidAccess else None) (missing_same f kept)

-- ---- every edit

module _ (fs : Flags) (part whole : World) (is : IsWithout fs part whole) where
  -- no connection leaves the destination, which is the first node of both
  output_fine : (from : ℕ) (a b : Option Exc) → is_kept fs from ≡ true → (b ≡ None → a ≡ None) → output_refusal from b ≡ None → output_refusal (part_number fs from) a ≡ None
  output_fine from a b kept none fine =
      ap (λ t. if t then Some (NotSupported (Some DestinationOutput)) else a) (same_zero fs from is.first kept)
      ∙ by_test (from == 0) fine
    where
      by_test : (t : Bool) → (if t then Some (NotSupported (Some DestinationOutput)) else b) ≡ None → (if t then Some (NotSupported (Some DestinationOutput)) else a) ≡ None
      by_test true h = absurd cc
      by_test false h = none h

  pub edit_accepted : (now : ℕ) (e : Edit) → IsHeardEdit fs whole e → refusal whole now e ≡ None → refusal part now (part_edit fs e) ≡ None
  edit_accepted now (edit.Create kind) heard fine = creation_fine fs part whole is kind fine
  edit_accepted now (edit.CreateBufferSource rate buffer points) heard fine = source_creation_fine fs part whole is rate buffer fine
  edit_accepted now (edit.CreateConvolver buffer) heard fine = convolver_fine fs part whole is buffer fine
  edit_accepted now (edit.Connect e) heard fine =
      output_fine e.from.0 _ _ heard.0
      (λ none. ap (λ (g : GraphView). connect_refusal g.value (part_edge fs e)) is.graph ∙ connect_fine fs whole.graph.value e heard.0 heard.1 none)
      fine
  edit_accepted now (edit.Disconnect from f) heard fine =
      output_fine from.0 _ _ heard.0
      (λ none. ap (λ (g : GraphView). disconnect_refusal g.value (part_number fs from.0) (part_form fs f)) is.graph ∙ disconnect_same fs whole.graph.value from.0 heard.0 f heard.1 ∙ none)
      fine
  edit_accepted now (edit.Source node e) heard fine = source_same fs part whole is node e heard ∙ fine
  edit_accepted now (edit.Param id e) heard fine = param_same fs part whole is now id e heard ∙ fine
  edit_accepted now (edit.Attribute node e) heard fine = node_same fs part whole is node (attribute_refusal e) heard ∙ fine
  edit_accepted now (edit.SetCurve node curve) heard fine = node_same fs part whole is node (curve_refusal curve) heard ∙ fine
  edit_accepted now (edit.Buffers e) heard fine = buffers_fine fs part whole is e fine
