-- What an operation comes to is what it may come to.
use Rattle.std.proofs.Common.{ℕ, ℤ, Bool, ◌≡◌, ◌<◌, length, List, true, false, Option, Some, None, refl, sym, ap, subst, arith}
use Rattle.std.specs.Prelude.{is_some, unwrap_or, if◌then◌else◌, IfSome}
use Rattle.wa_base.specs.declared.exceptions.Exc.{Exc}
use Rattle.wa_base.specs.Contexts.{quantum_of}
use Rattle.wa_base.specs.declared.contexts.ContextSpec.{ContextSpec}
use Rattle.wa_base.specs.declared.exceptions.Exc.TheVariants.{NotSupported, InvalidState, WrongType}
use Rattle.wa_base.specs.declared.features.Feature.TheVariants as feature
use Rattle.wa_base.specs.declared.graph_names.BufId.{BufId}
use Rattle.wa_base.specs.declared.graph_names.ParamId.{ParamId}
use Rattle.wa_base.specs.declared.graph_names.NodeId.{NodeId}
use Rattle.ctx_state.specs.Context.{ContextView, start_refusal, resume_refusal, quantised, frame_refusal, suspend_refusal, suspend_frame, may_suspend}
use Rattle.transcript.specs.declared.lines.Answer.TheVariants as answer
use Rattle.script_ast.specs.Operations.{IsInRange, new_name}
use Rattle.script_ast.specs.Ranges.{IsNewName}
use Rattle.script_ast.specs.declared.operations.Op.{Op}
use Rattle.script_ast.specs.declared.operations.Op.TheVariants as op
use Rattle.script_ast.specs.declared.operations.Oversample.{Oversample}
use Rattle.name_book.specs.Book.{object_of}
use Rattle.name_book.specs.declared.book.Object.{Object}
use Rattle.name_book.specs.declared.book.Object.TheVariants as object
use Rattle.node_table.specs.Kinds.{is_delay_kind}
use Rattle.node_table.specs.declared.kinds.Kind.{Kind}
use Rattle.node_table.specs.declared.equation.Equation.TheVariants.{Processor}
use Rattle.node_table.specs.declared.kinds.Kind.TheVariants.{Causal, Delay, Shaper}
use Rattle.conn_graph.specs.Edges.{form_node}
use Rattle.meaning.specs.declared.automation.ParamEdit.{ParamEdit}
use Rattle.meaning.specs.declared.automation.ParamEdit.TheVariants as line
use Rattle.meaning.specs.declared.buffers.BufferEdit.TheVariants as buffer_edit
use Rattle.meaning.specs.declared.change.AttributeEdit.TheVariants as attribute
use Rattle.meaning.specs.declared.change.Edit.{Edit}
use Rattle.meaning.specs.declared.change.Edit.TheVariants as edit
use Rattle.meaning.specs.declared.scheds.LoopPart.TheVariants as part
use Rattle.meaning.specs.declared.sources.SourceEdit.TheVariants as source
use Rattle.meaning.specs.World.{kind_of, slot_of}
use Rattle.meaning.specs.Sources.{IsBufferOf}
use Rattle.meaning.specs.Worlds.{HasCapacity}
use Rattle.meaning.specs.Changes.{creates, refusal, IsNamed}
use Rattle.control_side.specs.declared.decide.Decided.{Decided}
use Rattle.control_side.specs.declared.decide.Decided.TheVariants as comes_to
use Rattle.control_side.specs.Convolvers.{normalization_refusal}
use Rattle.control_side.specs.Deciding.{by_buffer, with_buffer}
use Rattle.control_side.specs.Machine.{Machine, IsAccepted}
use Rattle.control_side.specs.Params.{param_at, name_refusal, lead_refusal, unless_refused, on_param, edits_param, leads, edge_to_param, form_of_param}
use Rattle.control_side.specs.Processors.{program_refusal}
use Rattle.control_side.specs.Shapers.{oversample_refusal, is_shaper, sets_oversample}
use Rattle.control_side.specs.Steady.{IsSteady}
use Rattle.control_side.specs.Step.{node_bound, node_named, buffer_bound, buffer_named, refused, unless, edits, edits_node, edits_nodes, edits_buffer, edits_with_buffer, sets_buffer, rate_of, delay_of, edge_of, form_to, form_from, promises, decided, is_start, is_resume, IsFor}
use Rattle.control_side.proofs.Named.{named_there}
use Rattle.control_side.proofs.Parameters.{param_there, param_low, lead_kept}

-- ---- names that stand for what is there

bound_node : (o : Option Object) (node : NodeId) → node_bound o ≡ Some node → o ≡ Some (object.Node node)
bound_node None node is = absurd cc
bound_node (Some (object.Node other)) node is = ap (λ (x : Option NodeId). Some (object.Node (unwrap_or x node))) is
bound_node (Some (object.Buffer buffer)) node is = absurd cc

node_there : (m : Machine) → IsSteady m → (name : List ℕ) (node : NodeId) → node_named m name ≡ Some node → node.0 < length m.world.nodes
node_there m steady name node is = named_there m.bindings name m.world (object.Node node) steady.valid.nodes.some steady.bound (bound_node (object_of m.bindings name) node is)

bound_buffer : (o : Option Object) (buffer : BufId) → buffer_bound o ≡ Some buffer → o ≡ Some (object.Buffer buffer)
bound_buffer None buffer is = absurd cc
bound_buffer (Some (object.Node node)) buffer is = absurd cc
bound_buffer (Some (object.Buffer other)) buffer is = ap (λ (x : Option BufId). Some (object.Buffer (unwrap_or x buffer))) is

buffer_there : (m : Machine) → IsSteady m → (name : List ℕ) (buffer : BufId) → buffer_named m name ≡ Some buffer → buffer.0 < length m.world.store
buffer_there m steady name buffer is = named_there m.bindings name m.world (object.Buffer buffer) steady.valid.nodes.some steady.bound (bound_buffer (object_of m.bindings name) buffer is)

-- ---- what an operation may come to

-- the operation schedules a suspension
abbrev pub is_suspension : Op → Bool
is_suspension (op.Suspend time) = true
is_suspension other = false

-- What an operation comes to, whatever the machine is; an edit is one that the world of a steady machine accepts.
abbrev pub Comes : Machine → Op → Decided → Type 0
Comes m o (comes_to.Answer said) = Unit {0}
Comes m o comes_to.Start = (is_start o ≡ true) × (start_refusal m.context ≡ None)
Comes m o (comes_to.Suspend frame) = (is_suspension o ≡ true) × (may_suspend m.context frame ≡ true)
Comes m o comes_to.Resume = (is_resume o ≡ true) × (resume_refusal m.context ≡ None)
Comes m o (comes_to.Change e) = (IsSteady m → IsInRange o → IsAccepted m e) × (creates e ≡ is_some (new_name o))

module _ (m : Machine) (o : Op) where
  -- an edit names what is there, and creates what gets a name
  abbrev IsOwn : Edit → Type 0
  IsOwn e = (IsSteady m → IsInRange o → IsNamed m.world e) × (creates e ≡ is_some (new_name o))

  unless_comes : (r : Option Exc) (e : Edit) → refusal m.world m.context.time e ≡ r → IsOwn e → Comes m o (unless r e)
  unless_comes None e fine own = ((λ steady in_range. record { time = let low = steady.time in omega arith; named = own.0 steady in_range; accepted = fine }), own.1)
  unless_comes (Some exc) e thrown own = tt

  edits_come : (e : Edit) → IsOwn e → Comes m o (edits m e)
  edits_come e own = unless_comes (refusal m.world m.context.time e) e refl own

  node_comes : (node : Option NodeId) (e : NodeId → Edit) → ((n : NodeId) → node ≡ Some n → IsOwn (e n)) → Comes m o (edits_node m node e)
  node_comes None e own = tt
  node_comes (Some n) e own = edits_come (e n) (own n refl)

  nodes_come : (from to : Option NodeId) (e : NodeId → NodeId → Edit) → ((a b : NodeId) → from ≡ Some a → to ≡ Some b → IsOwn (e a b)) → Comes m o (edits_nodes m from to e)
  nodes_come None to e own = tt
  nodes_come (Some a) to e own = node_comes to (e a) (λ b is. own a b refl is)

  buffer_comes : (buffer : Option BufId) (e : BufId → Edit) → ((b : BufId) → buffer ≡ Some b → IsOwn (e b)) → Comes m o (edits_buffer m buffer e)
  buffer_comes None e own = tt
  buffer_comes (Some b) e own = edits_come (e b) (own b refl)

  by_buffer_comes : (buffer : Option BufId) (what : BufId → Decided) → ((b : BufId) → buffer ≡ Some b → Comes m o (what b)) → Comes m o (by_buffer buffer what)
  by_buffer_comes None what may = tt
  by_buffer_comes (Some b) what may = may b refl

  by_given_comes : (name : Option (List ℕ)) (what : Option BufId → Decided) → ((b : Option BufId) → (IsSteady m → IsBufferOf m.world.store b) → Comes m o (what b)) → Comes m o (with_buffer m name what)
  by_given_comes None what may = may None (λ steady. tt)
  by_given_comes (Some name) what may = by_buffer_comes (buffer_named m name) (λ b. what (Some b)) (λ b is. may (Some b) (λ steady. buffer_there m steady name b is))

  with_buffer_comes : (name : Option (List ℕ)) (e : Option BufId → Edit) → ((b : Option BufId) → (IsSteady m → IsBufferOf m.world.store b) → IsOwn (e b)) → Comes m o (edits_with_buffer m name e)
  with_buffer_comes name e own = by_given_comes name (λ b. edits m (e b)) (λ b there. edits_come (e b) (own b there))

  sets_buffer_comes : new_name o ≡ None → (node : Option NodeId) (name : Option (List ℕ)) → Comes m o (sets_buffer m node name)
  sets_buffer_comes none None name = tt
  sets_buffer_comes none (Some n) name = with_buffer_comes name (λ b. edit.Source n (source.SetBuffer b)) (λ b there. ((λ steady in_range. there steady), sym (ap is_some none)))

  unless_refused_comes : (r : Option Exc) (d : Decided) → (r ≡ None → Comes m o d) → Comes m o (unless_refused r d)
  unless_refused_comes None d kept = kept refl
  unless_refused_comes (Some exc) d kept = tt

  on_param_comes : (id : Option ParamId) (what : ParamId → Decided) → ((i : ParamId) → id ≡ Some i → name_refusal i.name ≡ None → Comes m o (what i)) → Comes m o (on_param id what)
  on_param_comes None what kept = tt
  on_param_comes (Some i) what kept = unless_refused_comes (name_refusal i.name) (what i) (kept i refl)

  edits_param_comes : new_name o ≡ None → (node word : List ℕ) (e : ParamEdit) → Comes m o (edits_param m node word e)
  edits_param_comes none node word e =
      on_param_comes (param_at m (node_named m node) word) (λ i. edits m (edit.Param i e))
      (λ i is kept. edits_come (edit.Param i e) ((λ steady in_range. param_there m steady (node_named m node) word (λ n found. node_there m steady node n found) i is kept), sym (ap is_some none)))

  lead_comes : (from : Option NodeId) (to : Option ParamId) (what : NodeId → ParamId → Decided)
      → ((n : NodeId) (i : ParamId) → from ≡ Some n → to ≡ Some i → lead_refusal n i ≡ None → Comes m o (what n i)) → Comes m o (leads from to what)
  lead_comes None to what kept = tt
  lead_comes (Some n) None what kept = tt
  lead_comes (Some n) (Some i) what kept = unless_refused_comes (lead_refusal n i) (what n i) (kept n i refl refl)

  oversample_comes : (node : Option NodeId) (value : Oversample) → Comes m o (sets_oversample m node value)
  oversample_comes None value = tt
  oversample_comes (Some n) value = by_kind (is_shaper (kind_of m.world n.0))
    where
      by_kind : (b : Bool) → Comes m o (if b then unless_refused (oversample_refusal value) (comes_to.Answer answer.Ok) else refused WrongType)
      by_kind true = unless_refused_comes (oversample_refusal value) (comes_to.Answer answer.Ok) (λ fine. tt)
      by_kind false = tt

  promise_comes : (r : Option Exc) (d : Decided) → (r ≡ None → Comes m o d) → Comes m o (promises r d)
  promise_comes None d kept = kept refl
  promise_comes (Some exc) d kept = tt

form_from_names : (count : ℕ) (output : Option ℕ) → IfSome (form_node (form_from output)) (λ node. node < count)
form_from_names count None = tt
form_from_names count (Some output) = tt

form_to_names : (count : ℕ) (output input : Option ℕ) (to : NodeId) → to.0 < count → IfSome (form_node (form_to output input to)) (λ node. node < count)
form_to_names count None input to there = there
form_to_names count (Some output) None to there = there
form_to_names count (Some output) (Some input) to there = there

form_of_param_names : (count : ℕ) (output : Option ℕ) (to : ParamId) → to.node.0 < count → IfSome (form_node (form_of_param output to)) (λ node. node < count)
form_of_param_names count None to there = there
form_of_param_names count (Some output) to there = there

-- a suspend that is not refused may be scheduled
may_be : (c : ContextView) (time : ℤ) → suspend_refusal c time ≡ None → may_suspend c (suspend_frame c time) ≡ true
may_be c time fine = by_frame (quantised (quantum_of c.spec) time) fine
  where
    by_frame : (f : Option ℕ) → frame_refusal c f ≡ None → may_suspend c (unwrap_or f 0) ≡ true
    by_frame None fine = absurd cc
    by_frame (Some frame) fine = by_test (may_suspend c frame) fine
      where
        by_test : (b : Bool) → (if b then None else Some InvalidState) ≡ None → b ≡ true
        by_test true fine = refl
        by_test false fine = absurd cc

-- what hangs on no context has the frames that it keeps
no_capacity : (q : ℕ) (spec : ContextSpec) (kind : Kind) → is_delay_kind kind ≡ false → HasCapacity q spec kind
no_capacity q spec (Delay longest time capacity) none = absurd cc
no_capacity q spec other none = tt

-- what each operation comes to is what it may come to
pub comes : (m : Machine) (o : Op) → Comes m o (decided m o)
unfolding decided
comes m (op.Create name kind) =
    edits_come m (op.Create name kind) (edit.Create kind) ((λ steady in_range. (in_range.1.0, no_capacity (quantum_of m.world.spec) m.world.spec kind in_range.1.1)), refl)
comes m (op.CreateDelay name max_delay_time delay_time) =
    edits_come m (op.CreateDelay name max_delay_time delay_time) (edit.Create (delay_of m.world.spec max_delay_time delay_time))
    ((λ steady in_range. (refl, refl)), refl)
comes m (op.Connect from output to input) =
    nodes_come m (op.Connect from output to input) (node_named m from) (node_named m to) (λ node target. edit.Connect (edge_of output input node target))
    (λ a b from_is to_is. ((λ steady in_range. (node_there m steady from a from_is, node_there m steady to b to_is)), refl))
comes m (op.Disconnect from output None input) =
    node_comes m (op.Disconnect from output None input) (node_named m from) (λ node. edit.Disconnect node (form_from output))
    (λ a from_is. ((λ steady in_range. (node_there m steady from a from_is, form_from_names (length m.world.nodes) output)), refl))
comes m (op.Disconnect from output (Some to) input) =
    nodes_come m (op.Disconnect from output (Some to) input) (node_named m from) (node_named m to) (λ node target. edit.Disconnect node (form_to output input target))
    (λ a b from_is to_is. ((λ steady in_range. (node_there m steady from a from_is, form_to_names (length m.world.nodes) output input b (node_there m steady to b to_is))), refl))
comes m (op.SetChannelCount node value) =
    node_comes m (op.SetChannelCount node value) (node_named m node) (λ n. edit.Attribute n (attribute.Count value))
    (λ a is. ((λ steady in_range. node_there m steady node a is), refl))
comes m (op.SetChannelCountMode node value) =
    node_comes m (op.SetChannelCountMode node value) (node_named m node) (λ n. edit.Attribute n (attribute.Mode value))
    (λ a is. ((λ steady in_range. node_there m steady node a is), refl))
comes m (op.SetChannelInterpretation node value) =
    node_comes m (op.SetChannelInterpretation node value) (node_named m node) (λ n. edit.Attribute n (attribute.Interp value))
    (λ a is. ((λ steady in_range. node_there m steady node a is), refl))
comes m (op.Start node when offset duration) =
    node_comes m (op.Start node when offset duration) (node_named m node) (λ n. edit.Source n (source.Start when offset duration))
    (λ a is. ((λ steady in_range. tt), refl))
comes m (op.Stop node when) = node_comes m (op.Stop node when) (node_named m node) (λ n. edit.Source n (source.Stop when)) (λ a is. ((λ steady in_range. tt), refl))
comes m (op.SetBuffer node buffer) = sets_buffer_comes m (op.SetBuffer node buffer) refl (node_named m node) buffer
comes m (op.SetLoop node value) = node_comes m (op.SetLoop node value) (node_named m node) (λ n. edit.Source n (source.SetLoop (part.On value))) (λ a is. ((λ steady in_range. tt), refl))
comes m (op.SetLoopStart node value) =
    node_comes m (op.SetLoopStart node value) (node_named m node) (λ n. edit.Source n (source.SetLoop (part.First value)))
    (λ a is. ((λ steady in_range. tt), refl))
comes m (op.SetLoopEnd node value) =
    node_comes m (op.SetLoopEnd node value) (node_named m node) (λ n. edit.Source n (source.SetLoop (part.End value)))
    (λ a is. ((λ steady in_range. tt), refl))
comes m (op.CreateConvolver name buffer disable_normalization) =
    let o = op.CreateConvolver name buffer disable_normalization in
    by_given_comes m o buffer (λ b. unless_refused (normalization_refusal disable_normalization) (edits m (edit.CreateConvolver b)))
    (λ b there. unless_refused_comes m o (normalization_refusal disable_normalization) (edits m (edit.CreateConvolver b)) (λ fine. edits_come m o (edit.CreateConvolver b) ((λ steady in_range. there steady), refl)))
comes m (op.CreateBufferSource name buffer looping loop_start loop_end playback_rate) =
    with_buffer_comes m (op.CreateBufferSource name buffer looping loop_start loop_end playback_rate) buffer (λ source. edit.CreateBufferSource (rate_of playback_rate) source (record { on = looping; first = loop_start; end = loop_end }))
    (λ b there. ((λ steady in_range. there steady), refl))
comes m (op.CreateBuffer name channels frames rate) =
    edits_come m (op.CreateBuffer name channels frames rate) (edit.Buffers (buffer_edit.Create channels frames rate))
    ((λ steady in_range. tt), refl)
comes m (op.CopyToChannel buffer channel samples first) =
    buffer_comes m (op.CopyToChannel buffer channel samples first) (buffer_named m buffer) (λ written. edit.Buffers (buffer_edit.Write written channel samples first))
    (λ b is. ((λ steady in_range. buffer_there m steady buffer b is), refl))
comes m (op.CreateWaveShaper name curve oversample) =
    let e : Edit = edit.Create (Shaper curve (is_some curve)) in
    unless_refused_comes m (op.CreateWaveShaper name curve oversample) (oversample_refusal oversample) (edits m e) (λ fine. edits_come m (op.CreateWaveShaper name curve oversample) e ((λ steady in_range. (refl, tt)), refl))
comes m (op.CreateProcessor name code) =
    let e : Edit = edit.Create (Causal (Processor code)) in
    unless_refused_comes m (op.CreateProcessor name code) (program_refusal code) (edits m e) (λ fine. edits_come m (op.CreateProcessor name code) e ((λ steady in_range. (refl, tt)), refl))
comes m (op.SetCurve node curve) = node_comes m (op.SetCurve node curve) (node_named m node) (λ n. edit.SetCurve n curve) (λ a is. ((λ steady in_range. node_there m steady node a is), refl))
comes m (op.SetOversample node value) = oversample_comes m (op.SetOversample node value) (node_named m node) value
comes m (op.SetValue node param value) = edits_param_comes m (op.SetValue node param value) refl node param (line.SetNow value)
comes m (op.SetValueAtTime node param value time) = edits_param_comes m (op.SetValueAtTime node param value time) refl node param (line.Set value time)
comes m (op.LinearRampToValueAtTime node param value time) = edits_param_comes m (op.LinearRampToValueAtTime node param value time) refl node param (line.Ramp value time)
comes m (op.SetValueCurveAtTime node param values time duration) = edits_param_comes m (op.SetValueCurveAtTime node param values time duration) refl node param (line.Curve values time duration)
comes m (op.CancelScheduledValues node param time) = edits_param_comes m (op.CancelScheduledValues node param time) refl node param (line.Cancel time)
comes m (op.CancelAndHoldAtTime node param time) = edits_param_comes m (op.CancelAndHoldAtTime node param time) refl node param (line.Hold time)
comes m (op.ConnectParam from output to param) =
    lead_comes m (op.ConnectParam from output to param) (node_named m from) (param_at m (node_named m to) param) (λ node id. edits m (edit.Connect (edge_to_param output node id)))
    (λ n i from_is to_is kept.
    edits_come m (op.ConnectParam from output to param) (edit.Connect (edge_to_param output n i))
    ((λ steady in_range. (node_there m steady from n from_is, param_there m steady (node_named m to) param (λ k found. node_there m steady to k found) i to_is (lead_kept n i kept))), refl))
comes m (op.DisconnectParam from to param output) =
    lead_comes m (op.DisconnectParam from to param output) (node_named m from) (param_at m (node_named m to) param) (λ node id. edits m (edit.Disconnect node (form_of_param output id)))
    (λ n i from_is to_is kept.
    edits_come m (op.DisconnectParam from to param output) (edit.Disconnect n (form_of_param output i))
    ((λ steady in_range. (node_there m steady from n from_is, form_of_param_names (length m.world.nodes) output i (param_low m (node_named m to) param (λ k found. node_there m steady to k found) i to_is))), refl))
comes m (op.SetAutomationRate node param value) = edits_param_comes m (op.SetAutomationRate node param value) refl node param (line.Rate value)
comes m (op.ExponentialRampToValueAtTime node param) =
    on_param_comes m (op.ExponentialRampToValueAtTime node param) (param_at m (node_named m node) param) (λ id. refused (NotSupported (Some feature.ExponentialRamp)))
    (λ i is kept. tt)
comes m (op.SetTargetAtTime node param) =
    on_param_comes m (op.SetTargetAtTime node param) (param_at m (node_named m node) param) (λ id. refused (NotSupported (Some feature.SetTarget)))
    (λ i is kept. tt)
comes m (op.ReadValue node param) =
    on_param_comes m (op.ReadValue node param) (param_at m (node_named m node) param) (λ id. comes_to.Answer (answer.Value (slot_of m.world id)))
    (λ i is kept. tt)
comes m op.StartRendering = promise_comes m op.StartRendering (start_refusal m.context) comes_to.Start (λ fine. (refl, fine))
comes m (op.Suspend time) =
    promise_comes m (op.Suspend time) (suspend_refusal m.context time) (comes_to.Suspend (suspend_frame m.context time))
    (λ fine. (refl, may_be m.context time fine))
comes m op.Resume = promise_comes m op.Resume (resume_refusal m.context) comes_to.Resume (λ fine. (refl, fine))
comes m op.ReadState = tt
comes m op.ReadTime = tt
comes m (op.LeftOut name) = tt
comes m (op.DecodeAudioData name path) = tt

comes_for : (m : Machine) → IsSteady m → (o : Op) → IsInRange o → (d : Decided) → Comes m o d → IsFor m o d
comes_for m steady o in_range (comes_to.Answer said) may = tt
comes_for m steady o in_range comes_to.Start may = may
comes_for m steady o in_range (comes_to.Suspend frame) may = may.1
comes_for m steady o in_range comes_to.Resume may = may.1
comes_for m steady o in_range (comes_to.Change e) may = (may.0 steady in_range, may.1)

pub decided_for : (m : Machine) → IsSteady m → (o : Op) → IsInRange o → IsFor m o (decided m o)
decided_for m steady o in_range = comes_for m steady o in_range (decided m o) (comes m o)

-- a new name is one that may be given
pub is_new : (o : Op) (name : List ℕ) → IsInRange o → new_name o ≡ Some name → IsNewName name
is_new (op.Create new kind) name in_range is = subst (λ (x : Option (List ℕ)). IfSome x IsNewName) is in_range.0
is_new (op.CreateDelay new longest time) name in_range is = subst (λ (x : Option (List ℕ)). IfSome x IsNewName) is in_range.0
is_new (op.CreateWaveShaper new curve oversample) name in_range is = subst (λ (x : Option (List ℕ)). IfSome x IsNewName) is in_range.0
is_new (op.CreateConvolver new buffer disable_normalization) name in_range is = subst (λ (x : Option (List ℕ)). IfSome x IsNewName) is in_range.0
is_new (op.CreateProcessor new code) name in_range is = subst (λ (x : Option (List ℕ)). IfSome x IsNewName) is in_range.0
is_new (op.CreateBufferSource new buffer looping loop_start loop_end rate) name in_range is = subst (λ (x : Option (List ℕ)). IfSome x IsNewName) is in_range.0
is_new (op.CreateBuffer new channels frames rate) name in_range is = subst (λ (x : Option (List ℕ)). IfSome x IsNewName) is in_range.0
is_new (op.DecodeAudioData new path) name in_range is = subst (λ (x : Option (List ℕ)). IfSome x IsNewName) is in_range.0
is_new other name in_range is = absurd cc
