-- What each operation comes to in the part, where it is heard, and in the whole, where it is not.
use Rattle.std.proofs.Common.{ℕ, ◌≡◌, List, [], ◌∷◌, Bool, true, false, Option, None, Some, inl, inr, refl, sym, ◌∙◌, ap, subst}
use Rattle.std.specs.Prelude.{not, ◌||◌, if◌then◌else◌, length, is_some, IfSome}
use Rattle.std.specs.List.{list_any, filter_map}
use Rattle.io_edge.specs.Paths.{Paths}
use Rattle.wa_base.specs.declared.contexts.ContextSpec.{ContextSpec}
use Rattle.wa_base.specs.declared.exceptions.Exc.{Exc}
use Rattle.wa_base.specs.declared.exceptions.Exc.TheVariants.{NotSupported}
use Rattle.wa_base.specs.declared.features.Feature.TheVariants as feature
use Rattle.wa_base.specs.declared.graph_names.NodeId.{NodeId}
use Rattle.wa_base.specs.declared.graph_names.ParamId.{ParamId}
use Rattle.conn_graph.specs.Edges.{form_node}
use Rattle.ctx_state.specs.Context.{ContextView, start_refusal, suspend_refusal, suspend_frame, resume_refusal}
use Rattle.node_table.specs.declared.kinds.Kind.TheVariants.{Shaper, Causal}
use Rattle.node_table.specs.declared.equation.Equation.TheVariants.{Processor}
use Rattle.script_ast.specs.declared.call_list.Call.{Call}
use Rattle.script_ast.specs.declared.operations.Op.{Op}
use Rattle.script_ast.specs.declared.operations.Op.TheVariants as op
use Rattle.meaning.specs.declared.automation.ParamEdit.{ParamEdit}
use Rattle.meaning.specs.declared.automation.ParamEdit.TheVariants as line
use Rattle.meaning.specs.declared.buffers.BufferEdit.TheVariants as buffer_edit
use Rattle.meaning.specs.declared.change.AttributeEdit.TheVariants as attribute
use Rattle.meaning.specs.declared.change.Edit.TheVariants as edit
use Rattle.meaning.specs.declared.scheds.LoopPart.TheVariants as part_of
use Rattle.meaning.specs.declared.sources.SourceEdit.TheVariants as source
use Rattle.transcript.specs.declared.lines.Answer.TheVariants as answer
use Rattle.meaning.specs.World.{slot_of}
use Rattle.prune_script.specs.Pruned.{creates_node, node_names, is_connect, is_read, node_named as creator_named}
use Rattle.control_side.specs.declared.decide.Decided.{Decided}
use Rattle.control_side.specs.declared.decide.Decided.TheVariants as comes_to
use Rattle.control_side.specs.Machine.{Machine}
use Rattle.control_side.specs.Convolvers.{normalization_refusal}
use Rattle.control_side.specs.Deciding.{refused, edits, node_named}
use Rattle.control_side.specs.Params.{edits_param, param_at, on_param, unless_refused, edge_to_param, form_of_param}
use Rattle.control_side.specs.Processors.{program_refusal}
use Rattle.control_side.specs.Shapers.{oversample_refusal}
use Rattle.control_side.specs.Step.{decided, decided_with, promises, rate_of, delay_of, edge_of, form_from, form_to}
use Rattle.prune.proofs.Flags.{Flags, is_kept}
use Rattle.prune.proofs.Without.{IsLeftOut, part_node, part_param, part_form}
use Rattle.prune_top.proofs.Contexts.{part_context, same_start, same_suspend, same_resume}
use Rattle.prune_top.proofs.Alike.{AreAlike}
use Rattle.prune_top.proofs.Heard.{is_fine, IsSame, either_refused, edits_heard, node_edits, nodes_edit, buffer_then, maybe_buffer, buffer_set, decoded, on_param_heard, leads_heard, oversample_heard}
use Rattle.prune_top.proofs.Unheard.{IsUnheard, refused_or, edits_unheard, node_unheard, either_unheard, target_dead, target_unheard, buffer_unheard, set_unheard, on_param_unheard, leads_unheard, either_dead, oversample_unheard}

-- the nodes that a call with an ordinal names after these calls, or creates
abbrev pub touched : List Call → ℕ → Op → List ℕ
touched earlier n o = if creates_node o then n ∷ [] else filter_map (creator_named earlier) (node_names o)

-- ---- the forms of disconnects

from_heard : (output : Option ℕ) (P : ℕ → Type 0) → IfSome (form_node (form_from output)) P
from_heard None P = tt
from_heard (Some n) P = tt

from_same : (fs : Flags) (output : Option ℕ) → part_form fs (form_from output) ≡ form_from output
from_same fs None = refl
from_same fs (Some n) = refl

to_node : (output input : Option ℕ) (to : NodeId) → form_node (form_to output input to) ≡ Some to.0
to_node None input to = refl
to_node (Some n) None to = refl
to_node (Some n) (Some k) to = refl

to_same : (fs : Flags) (output input : Option ℕ) (to : NodeId) → part_form fs (form_to output input to) ≡ form_to output input (part_node fs to)
to_same fs None input to = refl
to_same fs (Some n) None to = refl
to_same fs (Some n) (Some k) to = refl

param_node : (output : Option ℕ) (id : ParamId) → form_node (form_of_param output id) ≡ Some id.node.0
param_node None id = refl
param_node (Some n) id = refl

param_same : (fs : Flags) (output : Option ℕ) (id : ParamId) → part_form fs (form_of_param output id) ≡ form_of_param output (part_param fs id)
param_same fs None id = refl
param_same fs (Some n) id = refl

pub alive_is : (b : Bool) → (not b || false) ≡ false → b ≡ true
alive_is true e = refl
alive_is false e = absurd cc

pub dead_is : (b : Bool) → (not b || false) ≡ true → b ≡ false
dead_is true e = absurd cc
dead_is false e = refl

module _ (fs : Flags) (live : ℕ → Bool) (place : ℕ → ℕ) (earlier : List Call) (whole part : Machine) (alike : AreAlike fs live place earlier whole part) (held : Paths) (n : ℕ) where
  promised : (r s : Option Exc) (d : Decided) → s ≡ r → IsSame fs whole d d → is_fine (promises r d) ≡ true → IsSame fs whole (promises r d) (promises s d)
  promised None s d same own fine = subst (λ t. IsSame fs whole d (promises t d)) (sym same) own
  promised (Some exception) s d same own fine = absurd cc

  abbrev Alive : List (List ℕ) → Type 0
  Alive names = list_any (λ node. not (live node)) (filter_map (creator_named earlier) names) ≡ false

  abbrev Dead : List (List ℕ) → Type 0
  Dead names = list_any (λ node. not (live node)) (filter_map (creator_named earlier) names) ≡ true

  -- what edits a parameter
  timeline : (name word : List ℕ) (e : ParamEdit) → Alive (name ∷ []) → is_fine (edits_param whole name word e) ≡ true → IsSame fs whole (edits_param whole name word e) (edits_param part name word e)
  timeline name word e alive fine =
      on_param_heard fs live place earlier whole part alike name word (λ id. edits whole (edit.Param id e)) (λ id. edits part (edit.Param id e)) alive (λ id kept f. edits_heard fs live place earlier whole part alike (edit.Param id e) kept f) fine

  -- what no parameter allows
  never : (name word : List ℕ) (exception : Exc) → Alive (name ∷ []) → is_fine (on_param (param_at whole (node_named whole name) word) (λ id. refused exception)) ≡ true
      → IsSame fs whole (on_param (param_at whole (node_named whole name) word) (λ id. refused exception)) (on_param (param_at part (node_named part name) word) (λ id. refused exception))
  never name word exception alive fine = on_param_heard fs live place earlier whole part alike name word (λ id. refused exception) (λ id. refused exception) alive (λ id kept f. absurd cc) fine

  -- a call that is heard comes to the same in the part
  pub heard_decided : (o : Op) → is_read o ≡ false → list_any (λ node. not (live node)) (touched earlier n o) ≡ false → (creates_node o ≡ true → is_kept fs (length whole.world.nodes) ≡ live n)
      → is_fine (decided_with whole held o) ≡ true → IsSame fs whole (decided_with whole held o) (decided_with part held o)
  unfolding decided
  heard_decided (op.Create name kind) read alive new fine =
      edits_heard fs live place earlier whole part alike (edit.Create kind) (new refl ∙ alive_is (live n) alive) fine
  heard_decided (op.CreateDelay name max_delay_time delay_time) read alive new fine =
      subst (λ (spec : ContextSpec). IsSame fs whole (edits whole (edit.Create (delay_of whole.world.spec max_delay_time delay_time))) (edits part (edit.Create (delay_of spec max_delay_time delay_time)))) (sym alike.world.spec)
      (edits_heard fs live place earlier whole part alike (edit.Create (delay_of whole.world.spec max_delay_time delay_time)) (new refl ∙ alive_is (live n) alive) fine)
  heard_decided (op.CreateWaveShaper name curve oversample) read alive new fine =
      either_refused fs live place earlier whole part alike (oversample_refusal oversample) (edits whole (edit.Create (Shaper curve (is_some curve)))) (edits part (edit.Create (Shaper curve (is_some curve))))
      (λ f. edits_heard fs live place earlier whole part alike (edit.Create (Shaper curve (is_some curve))) (new refl ∙ alive_is (live n) alive) f) fine
  heard_decided (op.CreateConvolver name buffer disable_normalization) read alive new fine =
      maybe_buffer fs live place earlier whole part alike buffer (λ b. unless_refused (normalization_refusal disable_normalization) (edits whole (edit.CreateConvolver b)))
      (λ b. unless_refused (normalization_refusal disable_normalization) (edits part (edit.CreateConvolver b)))
      (λ b f. either_refused fs live place earlier whole part alike (normalization_refusal disable_normalization) (edits whole (edit.CreateConvolver b)) (edits part (edit.CreateConvolver b)) (λ g. edits_heard fs live place earlier whole part alike (edit.CreateConvolver b) (new refl ∙ alive_is (live n) alive) g) f) fine
  heard_decided (op.CreateProcessor name code) read alive new fine =
      either_refused fs live place earlier whole part alike (program_refusal code) (edits whole (edit.Create (Causal (Processor code)))) (edits part (edit.Create (Causal (Processor code))))
      (λ f. edits_heard fs live place earlier whole part alike (edit.Create (Causal (Processor code))) (new refl ∙ alive_is (live n) alive) f) fine
  heard_decided (op.CreateBufferSource name buffer looping loop_start loop_end playback_rate) read alive new fine =
      maybe_buffer fs live place earlier whole part alike buffer (λ b. edits whole (edit.CreateBufferSource (rate_of playback_rate) b (record { on = looping; first = loop_start; end = loop_end })))
      (λ b. edits part (edit.CreateBufferSource (rate_of playback_rate) b (record { on = looping; first = loop_start; end = loop_end })))
      (λ b f. edits_heard fs live place earlier whole part alike (edit.CreateBufferSource (rate_of playback_rate) b (record { on = looping; first = loop_start; end = loop_end })) (new refl ∙ alive_is (live n) alive) f) fine
  heard_decided (op.CreateBuffer name channels frames rate) read alive new fine =
      edits_heard fs live place earlier whole part alike (edit.Buffers (buffer_edit.Create channels frames rate)) tt fine
  heard_decided (op.LeftOut name) read alive new fine =
      absurd cc
  heard_decided (op.Connect from output to input) read alive new fine =
      nodes_edit fs live place earlier whole part alike from to (λ node target. edit.Connect (edge_of output input node target)) alive (λ a b kept_a kept_b. (kept_a, kept_b)) (λ a b. refl) fine
  heard_decided (op.ConnectParam from output to param) read alive new fine =
      leads_heard fs live place earlier whole part alike from to param (λ node id. edits whole (edit.Connect (edge_to_param output node id))) (λ node id. edits part (edit.Connect (edge_to_param output node id))) alive
      (λ a id kept_a kept_id f. edits_heard fs live place earlier whole part alike (edit.Connect (edge_to_param output a id)) (kept_a, kept_id) f) fine
  heard_decided (op.Disconnect from output None input) read alive new fine =
      node_edits fs live place earlier whole part alike from (λ node. edit.Disconnect node (form_from output)) alive (λ a kept_a. (kept_a, from_heard output (λ node. is_kept fs node ≡ true)))
      (λ a. ap (λ f. edit.Disconnect (part_node fs a) f) (from_same fs output)) fine
  heard_decided (op.Disconnect from output (Some to) input) read alive new fine =
      nodes_edit fs live place earlier whole part alike from to (λ node target. edit.Disconnect node (form_to output input target)) alive
      (λ a b kept_a kept_b. (kept_a, subst (λ (o : Option ℕ). IfSome o (λ node. is_kept fs node ≡ true)) (sym (to_node output input b)) kept_b))
      (λ a b. ap (λ f. edit.Disconnect (part_node fs a) f) (to_same fs output input b)) fine
  heard_decided (op.DisconnectParam from to param output) read alive new fine =
      leads_heard fs live place earlier whole part alike from to param (λ node id. edits whole (edit.Disconnect node (form_of_param output id))) (λ node id. edits part (edit.Disconnect node (form_of_param output id))) alive
      (λ a id kept_a kept_id f.
      subst (λ x. IsSame fs whole (edits whole (edit.Disconnect a (form_of_param output id))) (edits part (edit.Disconnect (part_node fs a) x))) (param_same fs output id)
      (edits_heard fs live place earlier whole part alike (edit.Disconnect a (form_of_param output id)) (kept_a, subst (λ (o : Option ℕ). IfSome o (λ node. is_kept fs node ≡ true)) (sym (param_node output id)) kept_id) f)) fine
  heard_decided (op.SetChannelCount node value) read alive new fine =
      node_edits fs live place earlier whole part alike node (λ m. edit.Attribute m (attribute.Count value)) alive (λ m kept. kept) (λ m. refl) fine
  heard_decided (op.SetChannelCountMode node value) read alive new fine =
      node_edits fs live place earlier whole part alike node (λ m. edit.Attribute m (attribute.Mode value)) alive (λ m kept. kept) (λ m. refl) fine
  heard_decided (op.SetChannelInterpretation node value) read alive new fine =
      node_edits fs live place earlier whole part alike node (λ m. edit.Attribute m (attribute.Interp value)) alive (λ m kept. kept) (λ m. refl) fine
  heard_decided (op.SetCurve node curve) read alive new fine =
      node_edits fs live place earlier whole part alike node (λ m. edit.SetCurve m curve) alive (λ m kept. kept) (λ m. refl) fine
  heard_decided (op.SetOversample node value) read alive new fine =
      oversample_heard fs live place earlier whole part alike node value alive fine
  heard_decided (op.SetBuffer node buffer) read alive new fine =
      buffer_set fs live place earlier whole part alike node buffer alive fine
  heard_decided (op.SetLoop node value) read alive new fine =
      node_edits fs live place earlier whole part alike node (λ m. edit.Source m (source.SetLoop (part_of.On value))) alive (λ m kept. kept) (λ m. refl) fine
  heard_decided (op.SetLoopStart node value) read alive new fine =
      node_edits fs live place earlier whole part alike node (λ m. edit.Source m (source.SetLoop (part_of.First value))) alive (λ m kept. kept) (λ m. refl) fine
  heard_decided (op.SetLoopEnd node value) read alive new fine =
      node_edits fs live place earlier whole part alike node (λ m. edit.Source m (source.SetLoop (part_of.End value))) alive (λ m kept. kept) (λ m. refl) fine
  heard_decided (op.CopyToChannel buffer channel samples first) read alive new fine =
      buffer_then fs live place earlier whole part alike buffer (λ b. edits whole (edit.Buffers (buffer_edit.Write b channel samples first))) (λ b. edits part (edit.Buffers (buffer_edit.Write b channel samples first)))
      (λ b f. edits_heard fs live place earlier whole part alike (edit.Buffers (buffer_edit.Write b channel samples first)) tt f) fine
  heard_decided (op.Start node when offset duration) read alive new fine =
      node_edits fs live place earlier whole part alike node (λ m. edit.Source m (source.Start when offset duration)) alive (λ m kept. kept) (λ m. refl) fine
  heard_decided (op.Stop node when) read alive new fine =
      node_edits fs live place earlier whole part alike node (λ m. edit.Source m (source.Stop when)) alive (λ m kept. kept) (λ m. refl) fine
  heard_decided (op.SetValue node param value) read alive new fine =
      timeline node param (line.SetNow value) alive fine
  heard_decided (op.SetValueAtTime node param value time) read alive new fine =
      timeline node param (line.Set value time) alive fine
  heard_decided (op.LinearRampToValueAtTime node param value time) read alive new fine =
      timeline node param (line.Ramp value time) alive fine
  heard_decided (op.SetValueCurveAtTime node param values time duration) read alive new fine =
      timeline node param (line.Curve values time duration) alive fine
  heard_decided (op.CancelScheduledValues node param time) read alive new fine =
      timeline node param (line.Cancel time) alive fine
  heard_decided (op.CancelAndHoldAtTime node param time) read alive new fine =
      timeline node param (line.Hold time) alive fine
  heard_decided (op.SetAutomationRate node param value) read alive new fine =
      timeline node param (line.Rate value) alive fine
  heard_decided (op.ExponentialRampToValueAtTime node param) read alive new fine =
      never node param (NotSupported (Some feature.ExponentialRamp)) alive fine
  heard_decided (op.SetTargetAtTime node param) read alive new fine =
      never node param (NotSupported (Some feature.SetTarget)) alive fine
  heard_decided (op.ReadValue node param) read alive new fine =
      absurd cc
  heard_decided op.StartRendering read alive new fine =
      promised (start_refusal whole.context) (start_refusal part.context) comes_to.Start (ap start_refusal alike.context ∙ same_start place whole.context) refl fine
  heard_decided (op.Suspend time) read alive new fine =
      subst (λ (c : ContextView). IsSame fs whole (promises (suspend_refusal whole.context time) (comes_to.Suspend (suspend_frame whole.context time))) (promises (suspend_refusal c time) (comes_to.Suspend (suspend_frame c time)))) (sym alike.context)
      (promised (suspend_refusal whole.context time) (suspend_refusal (part_context place whole.context) time) (comes_to.Suspend (suspend_frame whole.context time)) (same_suspend place whole.context time) refl fine)
  heard_decided op.Resume read alive new fine =
      promised (resume_refusal whole.context) (resume_refusal part.context) comes_to.Resume (ap resume_refusal alike.context ∙ same_resume place whole.context) refl fine
  heard_decided (op.DecodeAudioData name path) read alive new fine =
      decoded fs live place earlier whole part alike (held path) fine
  heard_decided op.ReadState read alive new fine =
      absurd cc
  heard_decided op.ReadTime read alive new fine =
      absurd cc

  -- a call that is not heard comes to an edit that is not, or to an answer
  pub unheard_decided : (o : Op) → list_any (λ node. not (live node)) (touched earlier n o) ≡ true → (creates_node o ≡ true → is_kept fs (length whole.world.nodes) ≡ live n)
      → (is_connect o ≡ true → (c d : ℕ) → filter_map (creator_named earlier) (node_names o) ≡ c ∷ d ∷ [] → live d ≡ true → live c ≡ true)
      → IsUnheard fs whole (decided_with whole held o)
  unfolding decided
  unheard_decided (op.Create name kind) dead new closes =
      edits_unheard fs live place earlier whole part alike (edit.Create kind) (new refl ∙ dead_is (live n) dead)
  unheard_decided (op.CreateDelay name max_delay_time delay_time) dead new closes =
      edits_unheard fs live place earlier whole part alike (edit.Create (delay_of whole.world.spec max_delay_time delay_time)) (new refl ∙ dead_is (live n) dead)
  unheard_decided (op.CreateWaveShaper name curve oversample) dead new closes =
      refused_or fs live place earlier whole part alike (oversample_refusal oversample) (edits whole (edit.Create (Shaper curve (is_some curve)))) (edits_unheard fs live place earlier whole part alike (edit.Create (Shaper curve (is_some curve))) (new refl ∙ dead_is (live n) dead))
  unheard_decided (op.CreateConvolver name buffer disable_normalization) dead new closes =
      buffer_unheard fs live place earlier whole part alike buffer (λ b. unless_refused (normalization_refusal disable_normalization) (edits whole (edit.CreateConvolver b)))
      (λ b. refused_or fs live place earlier whole part alike (normalization_refusal disable_normalization) (edits whole (edit.CreateConvolver b)) (edits_unheard fs live place earlier whole part alike (edit.CreateConvolver b) (new refl ∙ dead_is (live n) dead)))
  unheard_decided (op.CreateProcessor name code) dead new closes =
      refused_or fs live place earlier whole part alike (program_refusal code) (edits whole (edit.Create (Causal (Processor code)))) (edits_unheard fs live place earlier whole part alike (edit.Create (Causal (Processor code))) (new refl ∙ dead_is (live n) dead))
  unheard_decided (op.CreateBufferSource name buffer looping loop_start loop_end playback_rate) dead new closes =
      buffer_unheard fs live place earlier whole part alike buffer (λ b. edits whole (edit.CreateBufferSource (rate_of playback_rate) b (record { on = looping; first = loop_start; end = loop_end }))) (λ b. edits_unheard fs live place earlier whole part alike (edit.CreateBufferSource (rate_of playback_rate) b (record { on = looping; first = loop_start; end = loop_end })) (new refl ∙ dead_is (live n) dead))
  unheard_decided (op.CreateBuffer name channels frames rate) dead new closes =
      absurd cc
  unheard_decided (op.LeftOut name) dead new closes =
      absurd cc
  unheard_decided (op.Connect from output to input) dead new closes =
      target_unheard fs live place earlier whole part alike from to (λ node target. edit.Connect (edge_of output input node target)) dead (closes refl) (λ a b gone. gone)
  unheard_decided (op.ConnectParam from output to param) dead new closes =
      leads_unheard fs live place earlier whole part alike from to param (λ node id. edits whole (edit.Connect (edge_to_param output node id)))
      (λ a b id is_a is_b own. edits_unheard fs live place earlier whole part alike (edit.Connect (edge_to_param output a id)) (ap (is_kept fs) own ∙ target_dead fs live place earlier whole part alike from to dead (closes refl) a b is_a is_b))
  unheard_decided (op.Disconnect from output None input) dead new closes =
      node_unheard fs live place earlier whole part alike from (λ node. edit.Disconnect node (form_from output)) dead (λ a gone. inl gone)
  unheard_decided (op.Disconnect from output (Some to) input) dead new closes =
      either_unheard fs live place earlier whole part alike from to (λ node target. edit.Disconnect node (form_to output input target)) dead
      (λ a b which. elim which [ inl e ↦ inl e | inr e ↦ inr (subst (IsLeftOut fs) (sym (to_node output input b)) e) ])
  unheard_decided (op.DisconnectParam from to param output) dead new closes =
      leads_unheard fs live place earlier whole part alike from to param (λ node id. edits whole (edit.Disconnect node (form_of_param output id)))
      (λ a b id is_a is_b own.
      edits_unheard fs live place earlier whole part alike (edit.Disconnect a (form_of_param output id)) (elim (either_dead fs live place earlier whole part alike from to dead a b is_a is_b) [
        | inl e ↦ inl e
        | inr e ↦ inr (subst (IsLeftOut fs) (sym (param_node output id)) (ap (is_kept fs) own ∙ e))
      ]))
  unheard_decided (op.SetChannelCount node value) dead new closes =
      node_unheard fs live place earlier whole part alike node (λ m. edit.Attribute m (attribute.Count value)) dead (λ m gone. gone)
  unheard_decided (op.SetChannelCountMode node value) dead new closes =
      node_unheard fs live place earlier whole part alike node (λ m. edit.Attribute m (attribute.Mode value)) dead (λ m gone. gone)
  unheard_decided (op.SetChannelInterpretation node value) dead new closes =
      node_unheard fs live place earlier whole part alike node (λ m. edit.Attribute m (attribute.Interp value)) dead (λ m gone. gone)
  unheard_decided (op.SetCurve node curve) dead new closes =
      node_unheard fs live place earlier whole part alike node (λ m. edit.SetCurve m curve) dead (λ m gone. gone)
  unheard_decided (op.SetOversample node value) dead new closes =
      oversample_unheard fs live place earlier whole part alike node value
  unheard_decided (op.SetBuffer node buffer) dead new closes =
      set_unheard fs live place earlier whole part alike node buffer dead
  unheard_decided (op.SetLoop node value) dead new closes =
      node_unheard fs live place earlier whole part alike node (λ m. edit.Source m (source.SetLoop (part_of.On value))) dead (λ m gone. gone)
  unheard_decided (op.SetLoopStart node value) dead new closes =
      node_unheard fs live place earlier whole part alike node (λ m. edit.Source m (source.SetLoop (part_of.First value))) dead (λ m gone. gone)
  unheard_decided (op.SetLoopEnd node value) dead new closes =
      node_unheard fs live place earlier whole part alike node (λ m. edit.Source m (source.SetLoop (part_of.End value))) dead (λ m gone. gone)
  unheard_decided (op.CopyToChannel buffer channel samples first) dead new closes =
      absurd cc
  unheard_decided (op.Start node when offset duration) dead new closes =
      node_unheard fs live place earlier whole part alike node (λ m. edit.Source m (source.Start when offset duration)) dead (λ m gone. gone)
  unheard_decided (op.Stop node when) dead new closes =
      node_unheard fs live place earlier whole part alike node (λ m. edit.Source m (source.Stop when)) dead (λ m gone. gone)
  unheard_decided (op.SetValue node param value) dead new closes =
      on_param_unheard fs live place earlier whole part alike node param (λ id. edits whole (edit.Param id (line.SetNow value))) dead (λ id gone. edits_unheard fs live place earlier whole part alike (edit.Param id (line.SetNow value)) gone)
  unheard_decided (op.SetValueAtTime node param value time) dead new closes =
      on_param_unheard fs live place earlier whole part alike node param (λ id. edits whole (edit.Param id (line.Set value time))) dead (λ id gone. edits_unheard fs live place earlier whole part alike (edit.Param id (line.Set value time)) gone)
  unheard_decided (op.LinearRampToValueAtTime node param value time) dead new closes =
      on_param_unheard fs live place earlier whole part alike node param (λ id. edits whole (edit.Param id (line.Ramp value time))) dead (λ id gone. edits_unheard fs live place earlier whole part alike (edit.Param id (line.Ramp value time)) gone)
  unheard_decided (op.SetValueCurveAtTime node param values time duration) dead new closes =
      on_param_unheard fs live place earlier whole part alike node param (λ id. edits whole (edit.Param id (line.Curve values time duration))) dead (λ id gone. edits_unheard fs live place earlier whole part alike (edit.Param id (line.Curve values time duration)) gone)
  unheard_decided (op.CancelScheduledValues node param time) dead new closes =
      on_param_unheard fs live place earlier whole part alike node param (λ id. edits whole (edit.Param id (line.Cancel time))) dead (λ id gone. edits_unheard fs live place earlier whole part alike (edit.Param id (line.Cancel time)) gone)
  unheard_decided (op.CancelAndHoldAtTime node param time) dead new closes =
      on_param_unheard fs live place earlier whole part alike node param (λ id. edits whole (edit.Param id (line.Hold time))) dead (λ id gone. edits_unheard fs live place earlier whole part alike (edit.Param id (line.Hold time)) gone)
  unheard_decided (op.SetAutomationRate node param value) dead new closes =
      on_param_unheard fs live place earlier whole part alike node param (λ id. edits whole (edit.Param id (line.Rate value))) dead (λ id gone. edits_unheard fs live place earlier whole part alike (edit.Param id (line.Rate value)) gone)
  unheard_decided (op.ExponentialRampToValueAtTime node param) dead new closes =
      on_param_unheard fs live place earlier whole part alike node param (λ id. refused (NotSupported (Some feature.ExponentialRamp))) dead (λ id gone. tt)
  unheard_decided (op.SetTargetAtTime node param) dead new closes =
      on_param_unheard fs live place earlier whole part alike node param (λ id. refused (NotSupported (Some feature.SetTarget))) dead (λ id gone. tt)
  unheard_decided (op.ReadValue node param) dead new closes =
      on_param_unheard fs live place earlier whole part alike node param (λ id. comes_to.Answer (answer.Value (slot_of whole.world id))) dead (λ id gone. tt)
  unheard_decided op.StartRendering dead new closes =
      absurd cc
  unheard_decided (op.Suspend time) dead new closes =
      absurd cc
  unheard_decided op.Resume dead new closes =
      absurd cc
  unheard_decided (op.DecodeAudioData name path) dead new closes =
      absurd cc
  unheard_decided op.ReadState dead new closes =
      absurd cc
  unheard_decided op.ReadTime dead new closes =
      absurd cc
