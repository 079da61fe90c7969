-- One control call: first it is decided what it comes to, and then that is done.
use Rattle.std.specs.Prelude.{ℕ, ◌≡◌, ◌/◌, ◌%◌, ◌==◌, ℤ, pos, negsuc, List, length, Bool, true, false, if◌then◌else◌, is_some, IsSome, Option, Some, None}
use Rattle.wa_base.specs.Contexts.{quantum_of}
use Rattle.wa_base.specs.declared.contexts.ContextSpec.{ContextSpec}
use Rattle.wa_base.specs.declared.contexts.State.TheVariants.{Running}
use Rattle.wa_base.specs.declared.exceptions.Exc.{Exc}
use Rattle.wa_base.specs.declared.exceptions.Exc.TheVariants.{NotSupported}
use Rattle.wa_base.specs.declared.features.Feature.TheVariants as feature
use Rattle.wa_base.specs.declared.graph_names.NodeId.{NodeId}
use Rattle.io_edge.specs.Paths.{Paths}
use Rattle.ctx_state.specs.Context.{ContextView, start_refusal, with_start, resume_refusal, resumed, suspend_refusal, suspend_frame, may_suspend, with_suspension}
use Rattle.script_ast.specs.Entries.{left_out_feature}
use Rattle.script_ast.specs.Operations.{new_name}
use Rattle.script_ast.specs.declared.call_list.Call.{Call}
use Rattle.script_ast.specs.declared.operations.Op.{Op}
use Rattle.script_ast.specs.declared.operations.Op.TheVariants as op
use Rattle.transcript.specs.declared.lines.Answer.{Answer}
use Rattle.transcript.specs.declared.lines.Answer.TheVariants as answer
use Rattle.name_book.specs.declared.book.Object.{Object}
use Rattle.name_book.specs.declared.book.Object.TheVariants as object
use Rattle.name_book.specs.Book.{bound, first_named}
use Rattle.node_table.specs.Delays.{delay_capacity}
use Rattle.node_table.specs.declared.kinds.Kind.{Kind}
use Rattle.node_table.specs.declared.kinds.Kind.TheVariants.{Delay}
use Rattle.conn_graph.specs.declared.edges.Edge.{Edge}
use Rattle.conn_graph.specs.declared.edges.Form.{Form}
use Rattle.conn_graph.specs.declared.edges.Form.TheVariants as form
use Rattle.conn_graph.specs.declared.edges.Target.TheVariants.{Input}
use Rattle.meaning.specs.World.{slot_of}
use Rattle.meaning.specs.declared.automation.ParamEdit.TheVariants as line
use Rattle.meaning.specs.declared.buffers.BufferEdit.TheVariants as buffer_edit
use Rattle.meaning.specs.declared.change.AttributeEdit.TheVariants as attribute
use Rattle.meaning.specs.declared.change.Edit.{Edit}
use Rattle.meaning.specs.declared.change.Edit.TheVariants as edit
use Rattle.meaning.specs.declared.scheds.LoopPart.TheVariants as part
use Rattle.meaning.specs.declared.sources.SourceEdit.TheVariants as source
use Rattle.meaning.specs.declared.world.World.{World}
use Rattle.meaning.specs.declared.change.Change.{Change}
use Rattle.meaning.specs.Changes.{Accepts, changed, edited, creates}
use Rattle.control_side.specs.declared.decide.Decided.{Decided}
use Rattle.control_side.specs.declared.decide.Decided.TheVariants as comes_to
use Rattle.control_side.specs.Assets.{decodes}
use Rattle.control_side.specs.Convolvers.{creates_convolver}
use Rattle.control_side.specs.Machine.{Machine, IsAccepted}
use Rattle.control_side.specs.Params.{param_at, on_param, edits_param, leads, edge_to_param, form_of_param}
use Rattle.control_side.specs.Processors.{creates_processor}
use Rattle.control_side.specs.Shapers.{creates_shaper, sets_oversample}
pub use Rattle.control_side.specs.Deciding.{node_bound, node_named, buffer_bound, buffer_named, refused, unless, edits, edits_node, edits_nodes, edits_buffer, edits_with_buffer, sets_buffer}

-- ---- what an operation comes to

-- the whole frames of a playbackRate, which has 24 bits behind the point: 0 stands for what is none
abbrev pub rate_of : ℤ → ℕ
rate_of (pos n) = if n % 16777216 == 0 then n / 16777216 else 0
rate_of (negsuc n) = 0

-- a delay of a context, which keeps the frames of its longest delay, and at least those of a quantum
abbrev pub delay_of : ContextSpec → ℤ → ℤ → Kind
delay_of spec longest time = Delay longest time (delay_capacity (quantum_of spec) longest spec.rate)

abbrev pub edge_of : ℕ → ℕ → NodeId → NodeId → Edge
edge_of output input from to = record { from = from; output = output; to = Input to input }

-- the form of a disconnect from an output to a node, by the members that are there
abbrev pub form_to : Option ℕ → Option ℕ → NodeId → Form
form_to None input to = form.Node to
form_to (Some output) None to = form.NodeOutput to output
form_to (Some output) (Some input) to = form.NodeOutputInput to output input

abbrev pub form_from : Option ℕ → Form
form_from None = form.All
form_from (Some output) = form.Output output

abbrev pub disconnects : Machine → Option NodeId → Option ℕ → Option (List ℕ) → Option ℕ → Decided
disconnects machine from output None input = edits_node machine from (λ node. edit.Disconnect node (form_from output))
disconnects machine from output (Some to) input = edits_nodes machine from (node_named machine to) (λ node target. edit.Disconnect node (form_to output input target))

-- a promise, which is rejected where there is a refusal
abbrev pub promises : Option Exc → Decided → Decided
promises None decided = decided
promises (Some exception) decided = comes_to.Answer (answer.Rejected exception)

-- what an operation comes to that looks at nothing outside
unfoldable pub decided : Machine → Op → Decided
-- nodes are created (BaseAudioContext)
decided machine (op.Create name kind) = edits machine (edit.Create kind)
decided machine (op.CreateDelay name max_delay_time delay_time) = edits machine (edit.Create (delay_of machine.world.spec max_delay_time delay_time))
-- on any node (AudioNode)
decided machine (op.Connect from output to input) = edits_nodes machine (node_named machine from) (node_named machine to) (λ node target. edit.Connect (edge_of output input node target))
decided machine (op.Disconnect from output to input) = disconnects machine (node_named machine from) output to input
decided machine (op.SetChannelCount node value) = edits_node machine (node_named machine node) (λ n. edit.Attribute n (attribute.Count value))
decided machine (op.SetChannelCountMode node value) = edits_node machine (node_named machine node) (λ n. edit.Attribute n (attribute.Mode value))
decided machine (op.SetChannelInterpretation node value) = edits_node machine (node_named machine node) (λ n. edit.Attribute n (attribute.Interp value))
-- on sources (AudioScheduledSourceNode, AudioBufferSourceNode)
decided machine (op.Start node when offset duration) = edits_node machine (node_named machine node) (λ n. edit.Source n (source.Start when offset duration))
decided machine (op.Stop node when) = edits_node machine (node_named machine node) (λ n. edit.Source n (source.Stop when))
decided machine (op.SetBuffer node buffer) = sets_buffer machine (node_named machine node) buffer
decided machine (op.SetLoop node value) = edits_node machine (node_named machine node) (λ n. edit.Source n (source.SetLoop (part.On value)))
decided machine (op.SetLoopStart node value) = edits_node machine (node_named machine node) (λ n. edit.Source n (source.SetLoop (part.First value)))
decided machine (op.SetLoopEnd node value) = edits_node machine (node_named machine node) (λ n. edit.Source n (source.SetLoop (part.End value)))
-- on buffers, and what is created with one (AudioBuffer)
decided machine (op.CreateConvolver name buffer disable_normalization) = creates_convolver machine buffer disable_normalization
decided machine (op.CreateBufferSource name buffer looping loop_start loop_end playback_rate) =
    edits_with_buffer machine buffer (λ source. edit.CreateBufferSource (rate_of playback_rate) source (record { on = looping; first = loop_start; end = loop_end }))
decided machine (op.CreateBuffer name channels frames rate) = edits machine (edit.Buffers (buffer_edit.Create channels frames rate))
decided machine (op.CopyToChannel buffer channel samples first) =
    edits_buffer machine (buffer_named machine buffer) (λ written. edit.Buffers (buffer_edit.Write written channel samples first))
-- on wave shapers (WaveShaperNode)
decided machine (op.CreateWaveShaper name curve oversample) = creates_shaper machine curve oversample
decided machine (op.SetCurve node curve) = edits_node machine (node_named machine node) (λ n. edit.SetCurve n curve)
decided machine (op.SetOversample node value) = sets_oversample machine (node_named machine node) value
-- processors (AudioWorkletNode)
decided machine (op.CreateProcessor name code) = creates_processor machine code
-- on the timelines of parameters (AudioParam)
decided machine (op.SetValue node param value) = edits_param machine node param (line.SetNow value)
decided machine (op.SetValueAtTime node param value time) = edits_param machine node param (line.Set value time)
decided machine (op.LinearRampToValueAtTime node param value time) = edits_param machine node param (line.Ramp value time)
decided machine (op.SetValueCurveAtTime node param values time duration) = edits_param machine node param (line.Curve values time duration)
decided machine (op.CancelScheduledValues node param time) = edits_param machine node param (line.Cancel time)
decided machine (op.CancelAndHoldAtTime node param time) = edits_param machine node param (line.Hold time)
-- on parameters otherwise (AudioParam, AudioNode)
decided machine (op.ConnectParam from output to param) =
    leads (node_named machine from) (param_at machine (node_named machine to) param) (λ node id. edits machine (edit.Connect (edge_to_param output node id)))
decided machine (op.DisconnectParam from to param output) =
    leads (node_named machine from) (param_at machine (node_named machine to) param) (λ node id. edits machine (edit.Disconnect node (form_of_param output id)))
decided machine (op.SetAutomationRate node param value) = edits_param machine node param (line.Rate value)
decided machine (op.ExponentialRampToValueAtTime node param) =
    on_param (param_at machine (node_named machine node) param) (λ id. refused (NotSupported (Some feature.ExponentialRamp)))
decided machine (op.SetTargetAtTime node param) =
    on_param (param_at machine (node_named machine node) param) (λ id. refused (NotSupported (Some feature.SetTarget)))
decided machine (op.ReadValue node param) =
    on_param (param_at machine (node_named machine node) param) (λ id. comes_to.Answer (answer.Value (slot_of machine.world id)))
-- on the context (BaseAudioContext, OfflineAudioContext)
decided machine op.StartRendering = promises (start_refusal machine.context) comes_to.Start
decided machine (op.Suspend time) = promises (suspend_refusal machine.context time) (comes_to.Suspend (suspend_frame machine.context time))
decided machine op.Resume = promises (resume_refusal machine.context) comes_to.Resume
decided machine op.ReadState = comes_to.Answer (answer.State machine.context.state)
decided machine op.ReadTime = comes_to.Answer (answer.Time machine.context.time)
-- what the profile leaves out
decided machine (op.LeftOut name) = refused (NotSupported (Some (left_out_feature name)))
-- where the folder holds nothing
decided machine (op.DecodeAudioData name path) = decodes machine None

-- and one that looks into the folder of assets, where the paths hold this
abbrev pub decided_with : Machine → Paths → Op → Decided
decided_with machine held (op.DecodeAudioData name path) = decodes machine (held path)
decided_with machine held other = decided machine other

-- ---- what is done

-- the machine after a call, and the answer
pub record Stepped : Type 0 where
  pub machine : Machine
  pub answer : Answer

abbrev pub with_world : Machine → World → Machine
with_world machine world = record machine { world = world }

-- what an edit creates has the number after the last one of its kind
abbrev pub created_by : Machine → Edit → Object
created_by machine (edit.Buffers e) = object.Buffer (record { 0 = length machine.world.store })
created_by machine other = object.Node (record { 0 = length machine.world.nodes })

-- the world is edited, and where a name is given it is bound to what is new
abbrev pub with_edit : Machine → Edit → Option (List ℕ) → Machine
with_edit machine change None = with_world machine (edited machine.world machine.context.time change)
with_edit machine change (Some name) = record machine {
  world = edited machine.world machine.context.time change;
  bindings = bound machine.bindings name (created_by machine change);
  first_names = first_named machine.first_names (created_by machine change) name;
}

abbrev pub with_context : Machine → ContextView → Machine
with_context machine context = record machine { context = context }

-- the answer to an edit that was made; decodeAudioData gives a promise, which resolves within the call
abbrev pub done : Op → Answer
done (op.DecodeAudioData name path) = answer.Resolved
done other = answer.Ok

-- a call that is only answered leaves the machine as it is, refused or not
abbrev pub settled : Machine → Call → Decided → Stepped
settled machine call (comes_to.Answer said) = record { machine = machine; answer = said }
settled machine call comes_to.Start = record { machine = with_context machine (with_start machine.context call.ordinal); answer = answer.Pending }
settled machine call (comes_to.Suspend frame) = record { machine = with_context machine (with_suspension machine.context frame call.ordinal); answer = answer.Pending }
settled machine call comes_to.Resume = record { machine = with_context machine (resumed machine.context); answer = answer.Resolved }
settled machine call (comes_to.Change change) = record { machine = with_edit machine change (new_name call.op); answer = done call.op }

-- a call, where the paths of the folder hold this
abbrev pub step : Machine → Paths → Call → Stepped
step machine held call = settled machine call (decided_with machine held call.op)

-- ---- what is said of a call

abbrev pub is_start : Op → Bool
is_start op.StartRendering = true
is_start other = false

abbrev pub is_resume : Op → Bool
is_resume op.Resume = true
is_resume other = false

abbrev pub is_decode : Op → Bool
is_decode (op.DecodeAudioData name path) = true
is_decode other = false

-- What an operation may come to: only startRendering starts the rendering, and only once; what the context refuses is not done to it; an edit is one that the world accepts, and what it creates gets a name.
abbrev pub IsFor : Machine → Op → Decided → Type 0
IsFor machine call (comes_to.Answer said) = Unit {0}
IsFor machine call comes_to.Start = (is_start call ≡ true) × (start_refusal machine.context ≡ None)
IsFor machine call (comes_to.Suspend frame) = may_suspend machine.context frame ≡ true
IsFor machine call comes_to.Resume = resume_refusal machine.context ≡ None
IsFor machine call (comes_to.Change change) = IsAccepted machine change × (creates change ≡ is_some (new_name call))

-- the machine and the answer are those of a step
abbrev pub Steps : Machine → Stepped → Answer → Type 0
Steps machine stepped said = (machine ≡ stepped.machine) × (said ≡ stepped.answer)

-- a call moves neither the context's numbers nor its time
pub record KeepsTime (old new : Machine) : Type 0 where
  pub spec : new.world.spec ≡ old.world.spec
  pub now : new.context.time ≡ old.context.time

-- once rendering was started, it is running
abbrev pub RunsOnceStarted : Machine → Type 0
RunsOnceStarted machine = IsSome machine.context.started → machine.context.state ≡ Running

-- What a call sends to the side that renders: the change of the world, which the world accepted, or nothing where the world stays.
abbrev pub Sends : World → World → Option Change → Type 0
Sends old new None = new ≡ old
Sends old new (Some change) = Accepts old change × (new ≡ changed old change)
