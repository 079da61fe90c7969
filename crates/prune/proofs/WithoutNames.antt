-- What an edit names in a world is in the one without the nodes that are not kept, if its nodes are kept.
use Rattle.std.proofs.Common.{ℕ, ◌≡◌, ◌<◌, length, filter, true, Option, IfSome, sym, subst}
use Rattle.wa_base.specs.Contexts.{quantum_of}
use Rattle.wa_base.specs.declared.contexts.ContextSpec.{ContextSpec}
use Rattle.wa_base.specs.declared.graph_names.BufId.{BufId}
use Rattle.wa_base.specs.declared.graph_names.ParamId.{ParamId}
use Rattle.law_base.specs.Members.{IsIn}
use Rattle.law_base.proofs.Members.{IsIn-filter_from}
use Rattle.conn_graph.specs.declared.edges.Form.{Form}
use Rattle.conn_graph.specs.declared.edges.Form.TheVariants as form
use Rattle.conn_graph.specs.declared.edges.Target.{Target}
use Rattle.conn_graph.specs.declared.edges.Target.TheVariants.{Input, Param as to_param}
use Rattle.conn_graph.specs.Edges.{target_node, form_node}
use Rattle.meaning.specs.declared.buffers.BufferEdit.{BufferEdit}
use Rattle.meaning.specs.declared.buffers.BufferEdit.TheVariants as buffer_edit
use Rattle.meaning.specs.declared.change.Edit.{Edit}
use Rattle.meaning.specs.declared.change.Edit.TheVariants as edit
use Rattle.meaning.specs.declared.params.Param.{Param}
use Rattle.meaning.specs.declared.sources.SourceEdit.{SourceEdit}
use Rattle.meaning.specs.declared.sources.SourceEdit.TheVariants as source
use Rattle.meaning.specs.declared.world.World.{World}
use Rattle.meaning.specs.Changes.{IsTarget, IsNamed}
use Rattle.meaning.specs.Lists.{Listed}
use Rattle.meaning.specs.Sources.{IsBufferOf, IsNamedBy, IsEditOf}
use Rattle.meaning.specs.Validity.{param_ids}
use Rattle.meaning.specs.Worlds.{HasCapacity}
use Rattle.prune.proofs.Flags.{Flags, is_kept, part_number, part_below}
use Rattle.prune.proofs.Members.{IsIn-map, map-IsIn}
use Rattle.prune.proofs.Without.{part_param, part_target, part_form, part_edit, is_kept_param, renumbered_param, IsWithout, IsHeardEdit}
use Rattle.prune.proofs.WithoutFacts.{nodes_count, buffers_count}

module _ (fs : Flags) (part whole : World) (is : IsWithout fs part whole) where
  -- a kept node, a parameter of one, and a buffer
  pub node_named : (n : ℕ) → is_kept fs n ≡ true → n < length whole.nodes → part_number fs n < length part.nodes
  node_named n kept l = subst (λ k. part_number fs n < k) (sym (nodes_count fs part whole is)) (part_below fs n (length whole.nodes) kept l)

  pub param_named : (id : ParamId) → is_kept fs id.node.0 ≡ true → IsIn id (param_ids whole) → IsIn (part_param fs id) (param_ids part)
  param_named id kept h =
      let found = map-IsIn (λ (p : Param). p.id) whole.params.items id h in
      let its : is_kept_param fs found.0 ≡ true = subst (λ (x : ParamId). is_kept fs x.node.0 ≡ true) found.2 kept in
      let renamed = IsIn-map (renumbered_param fs) (filter (is_kept_param fs) whole.params.items) found.0 (IsIn-filter_from (is_kept_param fs) whole.params.items found.0 found.1 its) in
      let there = subst (λ (l : Listed Param). IsIn (renumbered_param fs found.0) l.items) (sym is.params) renamed in
      subst (λ (x : ParamId). IsIn (part_param fs x) (param_ids part)) (sym found.2) (IsIn-map (λ (p : Param). p.id) part.params.items (renumbered_param fs found.0) there)

  pub buffer_named : (buffer : Option BufId) → IsBufferOf whole.store buffer → IsBufferOf part.store buffer
  buffer_named buffer named = subst (λ n. IfSome buffer (λ b. b.0 < n)) (sym (buffers_count fs part whole is)) named

  target_named : (t : Target) → is_kept fs (target_node t) ≡ true → IsTarget whole t → IsTarget part (part_target fs t)
  target_named (Input node input) kept named = node_named node.0 kept named
  target_named (to_param id) kept named = param_named id kept named

  form_named : (f : Form) → IfSome (form_node f) (λ node. is_kept fs node ≡ true) → IfSome (form_node f) (λ node. node < length whole.nodes) → IfSome (form_node (part_form fs f)) (λ node. node < length part.nodes)
  form_named form.All kept named = tt
  form_named (form.Output output) kept named = tt
  form_named (form.Node node) kept named = node_named node.0 kept named
  form_named (form.NodeOutput node output) kept named = node_named node.0 kept named
  form_named (form.NodeOutputInput node output input) kept named = node_named node.0 kept named
  form_named (form.Param id) kept named = node_named id.node.0 kept named
  form_named (form.ParamOutput id output) kept named = node_named id.node.0 kept named

  source_named : (e : SourceEdit) → IsNamedBy whole.store e → IsNamedBy part.store e
  source_named (source.Start when offset duration) named = tt
  source_named (source.Stop when) named = tt
  source_named (source.SetBuffer buffer) named = buffer_named buffer named
  source_named (source.SetLoop part) named = tt

  buffers_named : (e : BufferEdit) → IsEditOf whole.store e → IsEditOf part.store e
  buffers_named (buffer_edit.Create channels frames rate) named = tt
  buffers_named (buffer_edit.Adopt wav) named = named
  buffers_named (buffer_edit.Write buffer channel samples first) named = subst (λ n. buffer.0 < n) (sym (buffers_count fs part whole is)) named

  pub edit_named : (e : Edit) → IsHeardEdit fs whole e → IsNamed whole e → IsNamed part (part_edit fs e)
  edit_named (edit.Create kind) heard named = (named.0, subst (λ (s : ContextSpec). HasCapacity (quantum_of s) s kind) (sym is.spec) named.1)
  edit_named (edit.CreateBufferSource rate buffer points) heard named = buffer_named buffer named
  edit_named (edit.CreateConvolver buffer) heard named = buffer_named buffer named
  edit_named (edit.Connect e) heard named = (node_named e.from.0 heard.0 named.0, target_named e.to heard.1 named.1)
  edit_named (edit.Disconnect from f) heard named = (node_named from.0 heard.0 named.0, form_named f heard.1 named.1)
  edit_named (edit.Source node e) heard named = source_named e named
  edit_named (edit.Param id e) heard named = param_named id heard named
  edit_named (edit.Attribute node e) heard named = node_named node.0 heard named
  edit_named (edit.SetCurve node curve) heard named = node_named node.0 heard named
  edit_named (edit.Buffers e) heard named = buffers_named e named
