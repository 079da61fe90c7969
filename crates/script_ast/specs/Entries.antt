-- The entries: the members of a script and of its context, and the operations with their words and their fields, in the order in which they are read.
-- Each row is the name of a field, its kind and its default: a field that is `Needed` has none, and one whose default is `Null` may hold null, as may one of the kinds `NameOrNull` and `FixesOrNull`.
use Rattle.std.specs.Prelude.{ℕ, List, [], ◌∷◌, codes, bytes_eq, Bool, true, false, pos, find, Option, Some, None}
use Rattle.std.specs.List.{list_any}
use Rattle.wa_base.specs.declared.features.Feature.{Feature}
use Rattle.wa_base.specs.declared.features.Feature.TheVariants as feature
use Rattle.node_table.specs.declared.equation.Equation.TheVariants.{Filter}
use Rattle.node_table.specs.declared.kinds.Kind.{Kind as NodeKind}
use Rattle.node_table.specs.declared.kinds.Kind.TheVariants as node
use Rattle.script_ast.specs.declared.entries.Creation.{Creation}
use Rattle.script_ast.specs.declared.entries.Creation.TheVariants as creation
use Rattle.script_ast.specs.declared.entries.Fallback.{Fallback}
use Rattle.script_ast.specs.declared.entries.Fallback.TheVariants.{Needed, Null, Number, Count, Flag, Oversample, NoCalls}
use Rattle.script_ast.specs.declared.entries.Kind.{Kind}
use Rattle.script_ast.specs.declared.entries.Kind.TheVariants as kind
use Rattle.script_ast.specs.declared.entries.OpName.{OpName}
use Rattle.script_ast.specs.declared.entries.OpName.TheVariants as op
use Rattle.script_ast.specs.declared.entries.Row.{Row}
use Rattle.script_ast.specs.declared.fields.Field.{Field}
use Rattle.script_ast.specs.declared.fields.Field.TheVariants as field
use Rattle.script_ast.specs.declared.left_out.LeftOutName.{LeftOutName}
use Rattle.script_ast.specs.declared.left_out.LeftOutName.TheVariants as left_out
use Rattle.script_ast.specs.declared.operations.Oversample.TheVariants.{Off}
use Rattle.script_ast.specs.declared.param_ops.ParamOpName.{ParamOpName}
use Rattle.script_ast.specs.declared.param_ops.ParamOpName.TheVariants as param

-- a row of an entry
abbrev pub row : Field → Kind → Fallback → Row
row field kind fallback = record { field = field; kind = kind; fallback = fallback }

-- ---- the members of a script, around those of its context

-- `version`, `context`
abbrev pub script_head : List Row
script_head =
    row field.Version kind.Version Needed ∷
    row field.Context kind.Object Needed ∷ []

-- those of `context`: `channels`, `length`, `rate`, `renderQuantum`
abbrev pub context_fields : List Row
context_fields =
    row field.Channels kind.Count Needed ∷
    row field.Length kind.Count Needed ∷
    row field.Rate kind.Count Needed ∷
    row field.RenderQuantum kind.Count (Count 128) ∷ []

-- `calls`
abbrev pub script_tail : List Row
script_tail =
    row field.Calls kind.Calls Needed ∷ []

-- ---- the fields of the operations

-- `createConstantSource`
abbrev pub create_constant_source : List Row
create_constant_source =
    row field.As kind.NewName Needed ∷
    row field.Offset kind.Fix (Number (pos 16777216)) ∷ []

-- `createGain`
abbrev pub create_gain : List Row
create_gain =
    row field.As kind.NewName Needed ∷
    row field.Gain kind.Fix (Number (pos 16777216)) ∷ []

-- `createDelay`
abbrev pub create_delay : List Row
create_delay =
    row field.As kind.NewName Needed ∷
    row field.MaxDelayTime kind.Fix (Number (pos 16777216)) ∷
    row field.DelayTime kind.Fix (Number (pos 0)) ∷ []

-- `createChannelSplitter`
abbrev pub create_channel_splitter : List Row
create_channel_splitter =
    row field.As kind.NewName Needed ∷
    row field.NumberOfOutputs kind.Count (Count 6) ∷ []

-- `createChannelMerger`
abbrev pub create_channel_merger : List Row
create_channel_merger =
    row field.As kind.NewName Needed ∷
    row field.NumberOfInputs kind.Count (Count 6) ∷ []

-- `createWaveShaper`
abbrev pub create_wave_shaper : List Row
create_wave_shaper =
    row field.As kind.NewName Needed ∷
    row field.Curve kind.Fixes Null ∷
    row field.Oversample kind.Oversample (Oversample Off) ∷ []

-- `createIIRFilter`
abbrev pub create_iir_filter : List Row
create_iir_filter =
    row field.As kind.NewName Needed ∷
    row field.Feedforward kind.Fixes Needed ∷
    row field.Feedback kind.Fixes Needed ∷ []

-- `createConvolver`
abbrev pub create_convolver : List Row
create_convolver =
    row field.As kind.NewName Needed ∷
    row field.Buffer kind.Name Null ∷
    row field.DisableNormalization kind.Flag (Flag false) ∷ []

-- `createProcessor`
abbrev pub create_processor : List Row
create_processor =
    row field.As kind.NewName Needed ∷
    row field.Code kind.Code Needed ∷ []

-- `createBufferSource`
abbrev pub create_buffer_source : List Row
create_buffer_source =
    row field.As kind.NewName Needed ∷
    row field.Buffer kind.Name Null ∷
    row field.Loop kind.Flag (Flag false) ∷
    row field.LoopStart kind.Time (Number (pos 0)) ∷
    row field.LoopEnd kind.Time (Number (pos 0)) ∷
    row field.PlaybackRate kind.Fix (Number (pos 16777216)) ∷ []

-- `createBuffer`
abbrev pub create_buffer : List Row
create_buffer =
    row field.As kind.NewName Needed ∷
    row field.Channels kind.Count Needed ∷
    row field.Length kind.Count Needed ∷
    row field.Rate kind.Count Needed ∷ []

-- `connect`
abbrev pub connect : List Row
connect =
    row field.From kind.Name Needed ∷
    row field.Output kind.Count (Count 0) ∷
    row field.To kind.Name Needed ∷
    row field.Input kind.Count (Count 0) ∷ []

-- `connectParam`
abbrev pub connect_param : List Row
connect_param =
    row field.From kind.Name Needed ∷
    row field.Output kind.Count (Count 0) ∷
    row field.To kind.Name Needed ∷
    row field.Param kind.Name Needed ∷ []

-- `disconnect`
abbrev pub disconnect : List Row
disconnect =
    row field.From kind.Name Needed ∷
    row field.Output kind.Count Null ∷
    row field.To kind.Name Null ∷
    row field.Input kind.Count Null ∷ []

-- `disconnectParam`
abbrev pub disconnect_param : List Row
disconnect_param =
    row field.From kind.Name Needed ∷
    row field.To kind.Name Needed ∷
    row field.Param kind.Name Needed ∷
    row field.Output kind.Count Null ∷ []

-- `setChannelCount`
abbrev pub set_channel_count : List Row
set_channel_count =
    row field.Node kind.Name Needed ∷
    row field.Value kind.Count Needed ∷ []

-- `setChannelCountMode`
abbrev pub set_channel_count_mode : List Row
set_channel_count_mode =
    row field.Node kind.Name Needed ∷
    row field.Value kind.Mode Needed ∷ []

-- `setChannelInterpretation`
abbrev pub set_channel_interpretation : List Row
set_channel_interpretation =
    row field.Node kind.Name Needed ∷
    row field.Value kind.Interp Needed ∷ []

-- `setCurve`
abbrev pub set_curve : List Row
set_curve =
    row field.Node kind.Name Needed ∷
    row field.Curve kind.FixesOrNull Needed ∷ []

-- `setOversample`
abbrev pub set_oversample : List Row
set_oversample =
    row field.Node kind.Name Needed ∷
    row field.Value kind.Oversample Needed ∷ []

-- `setBuffer`
abbrev pub set_buffer : List Row
set_buffer =
    row field.Node kind.Name Needed ∷
    row field.Buffer kind.NameOrNull Needed ∷ []

-- `setLoop`
abbrev pub set_loop : List Row
set_loop =
    row field.Node kind.Name Needed ∷
    row field.Value kind.Flag Needed ∷ []

-- `setLoopStart`
abbrev pub set_loop_start : List Row
set_loop_start =
    row field.Node kind.Name Needed ∷
    row field.Value kind.Time Needed ∷ []

-- `setLoopEnd`
abbrev pub set_loop_end : List Row
set_loop_end =
    row field.Node kind.Name Needed ∷
    row field.Value kind.Time Needed ∷ []

-- `copyToChannel`
abbrev pub copy_to_channel : List Row
copy_to_channel =
    row field.Buffer kind.Name Needed ∷
    row field.Channel kind.Count Needed ∷
    row field.Samples kind.Fixes Needed ∷
    row field.At kind.Count (Count 0) ∷ []

-- `start`
abbrev pub start : List Row
start =
    row field.Node kind.Name Needed ∷
    row field.When kind.Time (Number (pos 0)) ∷
    row field.Offset kind.Time (Number (pos 0)) ∷
    row field.Duration kind.Time Null ∷ []

-- `stop`
abbrev pub stop : List Row
stop =
    row field.Node kind.Name Needed ∷
    row field.When kind.Time (Number (pos 0)) ∷ []

-- `setValue`
abbrev pub set_value : List Row
set_value =
    row field.Node kind.Name Needed ∷
    row field.Param kind.Name Needed ∷
    row field.Value kind.Fix Needed ∷ []

-- `setValueAtTime`
abbrev pub set_value_at_time : List Row
set_value_at_time =
    row field.Node kind.Name Needed ∷
    row field.Param kind.Name Needed ∷
    row field.Value kind.Fix Needed ∷
    row field.Time kind.Time Needed ∷ []

-- `linearRampToValueAtTime`
abbrev pub linear_ramp_to_value_at_time : List Row
linear_ramp_to_value_at_time =
    row field.Node kind.Name Needed ∷
    row field.Param kind.Name Needed ∷
    row field.Value kind.Fix Needed ∷
    row field.Time kind.Time Needed ∷ []

-- `setValueCurveAtTime`
abbrev pub set_value_curve_at_time : List Row
set_value_curve_at_time =
    row field.Node kind.Name Needed ∷
    row field.Param kind.Name Needed ∷
    row field.Values kind.Fixes Needed ∷
    row field.Time kind.Time Needed ∷
    row field.Duration kind.Time Needed ∷ []

-- `cancelScheduledValues`
abbrev pub cancel_scheduled_values : List Row
cancel_scheduled_values =
    row field.Node kind.Name Needed ∷
    row field.Param kind.Name Needed ∷
    row field.Time kind.Time Needed ∷ []

-- `cancelAndHoldAtTime`
abbrev pub cancel_and_hold_at_time : List Row
cancel_and_hold_at_time =
    row field.Node kind.Name Needed ∷
    row field.Param kind.Name Needed ∷
    row field.Time kind.Time Needed ∷ []

-- `setAutomationRate`
abbrev pub set_automation_rate : List Row
set_automation_rate =
    row field.Node kind.Name Needed ∷
    row field.Param kind.Name Needed ∷
    row field.Value kind.Rate Needed ∷ []

-- `exponentialRampToValueAtTime`
abbrev pub exponential_ramp_to_value_at_time : List Row
exponential_ramp_to_value_at_time =
    row field.Node kind.Name Needed ∷
    row field.Param kind.Name Needed ∷ []

-- `setTargetAtTime`
abbrev pub set_target_at_time : List Row
set_target_at_time =
    row field.Node kind.Name Needed ∷
    row field.Param kind.Name Needed ∷ []

-- `readValue`
abbrev pub read_value : List Row
read_value =
    row field.Node kind.Name Needed ∷
    row field.Param kind.Name Needed ∷ []

-- `suspend`
abbrev pub suspend : List Row
suspend =
    row field.Time kind.Time Needed ∷
    row field.Then kind.Calls NoCalls ∷ []

-- `startRendering`
abbrev pub start_rendering : List Row
start_rendering =
    row field.Then kind.Calls NoCalls ∷ []

-- `decodeAudioData`
abbrev pub decode_audio_data : List Row
decode_audio_data =
    row field.As kind.NewName Needed ∷
    row field.Path kind.Path Needed ∷ []

-- ---- the operations

-- the `op` of an operation that the profile leaves out
abbrev pub left_out_word : LeftOutName → List ℕ
left_out_word left_out.CreateOscillator = codes "createOscillator"
left_out_word left_out.CreatePeriodicWave = codes "createPeriodicWave"
left_out_word left_out.CreateBiquadFilter = codes "createBiquadFilter"
left_out_word left_out.CreateStereoPanner = codes "createStereoPanner"
left_out_word left_out.CreatePanner = codes "createPanner"
left_out_word left_out.CreateDynamicsCompressor = codes "createDynamicsCompressor"
left_out_word left_out.CreateAnalyser = codes "createAnalyser"
left_out_word left_out.SetListener = codes "setListener"
left_out_word left_out.CreateMediaElementSource = codes "createMediaElementSource"
left_out_word left_out.CreateMediaStreamSource = codes "createMediaStreamSource"
left_out_word left_out.CreateMediaStreamTrackSource = codes "createMediaStreamTrackSource"
left_out_word left_out.CreateMediaStreamDestination = codes "createMediaStreamDestination"
left_out_word left_out.CreateScriptProcessor = codes "createScriptProcessor"
left_out_word left_out.CreateAudioWorkletNode = codes "createAudioWorkletNode"

-- the feature for which it is refused
abbrev pub left_out_feature : LeftOutName → Feature
left_out_feature left_out.CreateOscillator = feature.Oscillator
left_out_feature left_out.CreatePeriodicWave = feature.PeriodicWave
left_out_feature left_out.CreateBiquadFilter = feature.Biquad
left_out_feature left_out.CreateStereoPanner = feature.StereoPanner
left_out_feature left_out.CreatePanner = feature.Panner
left_out_feature left_out.CreateDynamicsCompressor = feature.Compressor
left_out_feature left_out.CreateAnalyser = feature.Analyser
left_out_feature left_out.SetListener = feature.Listener
left_out_feature left_out.CreateMediaElementSource = feature.MediaElementSource
left_out_feature left_out.CreateMediaStreamSource = feature.MediaStreamSource
left_out_feature left_out.CreateMediaStreamTrackSource = feature.MediaStreamTrackSource
left_out_feature left_out.CreateMediaStreamDestination = feature.MediaStreamDestination
left_out_feature left_out.CreateScriptProcessor = feature.ScriptProcessor
left_out_feature left_out.CreateAudioWorkletNode = feature.AudioWorklet

-- the `op` of an operation on a parameter
abbrev pub param_op_word : ParamOpName → List ℕ
param_op_word param.SetValue = codes "setValue"
param_op_word param.SetValueAtTime = codes "setValueAtTime"
param_op_word param.LinearRampToValueAtTime = codes "linearRampToValueAtTime"
param_op_word param.SetValueCurveAtTime = codes "setValueCurveAtTime"
param_op_word param.CancelScheduledValues = codes "cancelScheduledValues"
param_op_word param.CancelAndHoldAtTime = codes "cancelAndHoldAtTime"
param_op_word param.SetAutomationRate = codes "setAutomationRate"
param_op_word param.ExponentialRampToValueAtTime = codes "exponentialRampToValueAtTime"
param_op_word param.SetTargetAtTime = codes "setTargetAtTime"
param_op_word param.ReadValue = codes "readValue"

-- the `op` of an operation that creates a node by its numbers alone
abbrev pub creation_word : Creation → List ℕ
creation_word creation.ConstantSource = codes "createConstantSource"
creation_word creation.Gain = codes "createGain"
creation_word creation.ChannelSplitter = codes "createChannelSplitter"
creation_word creation.ChannelMerger = codes "createChannelMerger"
creation_word creation.IIRFilter = codes "createIIRFilter"

-- the operation that creates a node of a kind by its numbers alone; none for the other kinds
abbrev pub creation_of : NodeKind → Option Creation
creation_of (node.Constant offset) = Some creation.ConstantSource
creation_of (node.Gain gain) = Some creation.Gain
creation_of (node.Splitter outputs) = Some creation.ChannelSplitter
creation_of (node.Merger inputs) = Some creation.ChannelMerger
creation_of (node.Causal (Filter forward back)) = Some creation.IIRFilter
creation_of other = None

-- the `op` of an operation
abbrev pub op_word : OpName → List ℕ
op_word (op.Create name) = creation_word name
op_word op.CreateDelay = codes "createDelay"
op_word op.CreateWaveShaper = codes "createWaveShaper"
op_word op.CreateConvolver = codes "createConvolver"
op_word op.CreateProcessor = codes "createProcessor"
op_word op.CreateBufferSource = codes "createBufferSource"
op_word op.CreateBuffer = codes "createBuffer"
op_word op.Connect = codes "connect"
op_word op.ConnectParam = codes "connectParam"
op_word op.Disconnect = codes "disconnect"
op_word op.DisconnectParam = codes "disconnectParam"
op_word op.SetChannelCount = codes "setChannelCount"
op_word op.SetChannelCountMode = codes "setChannelCountMode"
op_word op.SetChannelInterpretation = codes "setChannelInterpretation"
op_word op.SetCurve = codes "setCurve"
op_word op.SetOversample = codes "setOversample"
op_word op.SetBuffer = codes "setBuffer"
op_word op.SetLoop = codes "setLoop"
op_word op.SetLoopStart = codes "setLoopStart"
op_word op.SetLoopEnd = codes "setLoopEnd"
op_word op.CopyToChannel = codes "copyToChannel"
op_word op.Start = codes "start"
op_word op.Stop = codes "stop"
op_word (op.Param name) = param_op_word name
op_word op.Suspend = codes "suspend"
op_word op.StartRendering = codes "startRendering"
op_word op.Resume = codes "resume"
op_word op.DecodeAudioData = codes "decodeAudioData"
op_word op.ReadState = codes "readState"
op_word op.ReadTime = codes "readTime"
op_word (op.LeftOut name) = left_out_word name

-- every operation
abbrev pub operations : List OpName
operations =
    op.Create creation.ConstantSource ∷
    op.Create creation.Gain ∷
    op.CreateDelay ∷
    op.Create creation.ChannelSplitter ∷
    op.Create creation.ChannelMerger ∷
    op.CreateWaveShaper ∷
    op.Create creation.IIRFilter ∷
    op.CreateConvolver ∷
    op.CreateProcessor ∷
    op.CreateBufferSource ∷
    op.CreateBuffer ∷
    op.Connect ∷
    op.ConnectParam ∷
    op.Disconnect ∷
    op.DisconnectParam ∷
    op.SetChannelCount ∷
    op.SetChannelCountMode ∷
    op.SetChannelInterpretation ∷
    op.SetCurve ∷
    op.SetOversample ∷
    op.SetBuffer ∷
    op.SetLoop ∷
    op.SetLoopStart ∷
    op.SetLoopEnd ∷
    op.CopyToChannel ∷
    op.Start ∷
    op.Stop ∷
    op.Param param.SetValue ∷
    op.Param param.SetValueAtTime ∷
    op.Param param.LinearRampToValueAtTime ∷
    op.Param param.SetValueCurveAtTime ∷
    op.Param param.CancelScheduledValues ∷
    op.Param param.CancelAndHoldAtTime ∷
    op.Param param.SetAutomationRate ∷
    op.Param param.ExponentialRampToValueAtTime ∷
    op.Param param.SetTargetAtTime ∷
    op.Param param.ReadValue ∷
    op.Suspend ∷
    op.StartRendering ∷
    op.Resume ∷
    op.DecodeAudioData ∷
    op.ReadState ∷
    op.ReadTime ∷
    op.LeftOut left_out.CreateOscillator ∷
    op.LeftOut left_out.CreatePeriodicWave ∷
    op.LeftOut left_out.CreateBiquadFilter ∷
    op.LeftOut left_out.CreateStereoPanner ∷
    op.LeftOut left_out.CreatePanner ∷
    op.LeftOut left_out.CreateDynamicsCompressor ∷
    op.LeftOut left_out.CreateAnalyser ∷
    op.LeftOut left_out.SetListener ∷
    op.LeftOut left_out.CreateMediaElementSource ∷
    op.LeftOut left_out.CreateMediaStreamSource ∷
    op.LeftOut left_out.CreateMediaStreamTrackSource ∷
    op.LeftOut left_out.CreateMediaStreamDestination ∷
    op.LeftOut left_out.CreateScriptProcessor ∷
    op.LeftOut left_out.CreateAudioWorkletNode ∷ []

-- the first of these operations that the text names
abbrev pub first_named : List ℕ → List OpName → Option OpName
first_named word names = find (λ name. bytes_eq (op_word name) word) names

-- the operation that a text names
unfoldable pub op_named : List ℕ → Option OpName
op_named word = first_named word operations

-- the fields of an operation on a parameter, in the order in which they are read
abbrev pub param_op_fields : ParamOpName → List Row
param_op_fields param.SetValue = set_value
param_op_fields param.SetValueAtTime = set_value_at_time
param_op_fields param.LinearRampToValueAtTime = linear_ramp_to_value_at_time
param_op_fields param.SetValueCurveAtTime = set_value_curve_at_time
param_op_fields param.CancelScheduledValues = cancel_scheduled_values
param_op_fields param.CancelAndHoldAtTime = cancel_and_hold_at_time
param_op_fields param.SetAutomationRate = set_automation_rate
param_op_fields param.ExponentialRampToValueAtTime = exponential_ramp_to_value_at_time
param_op_fields param.SetTargetAtTime = set_target_at_time
param_op_fields param.ReadValue = read_value

-- the fields of an operation that creates a node by its numbers alone, in the order in which they are read
abbrev pub creation_fields : Creation → List Row
creation_fields creation.ConstantSource = create_constant_source
creation_fields creation.Gain = create_gain
creation_fields creation.ChannelSplitter = create_channel_splitter
creation_fields creation.ChannelMerger = create_channel_merger
creation_fields creation.IIRFilter = create_iir_filter

-- the fields of an operation, in the order in which they are read
abbrev pub fields_of : OpName → List Row
fields_of (op.Create name) = creation_fields name
fields_of op.CreateDelay = create_delay
fields_of op.CreateWaveShaper = create_wave_shaper
fields_of op.CreateConvolver = create_convolver
fields_of op.CreateProcessor = create_processor
fields_of op.CreateBufferSource = create_buffer_source
fields_of op.CreateBuffer = create_buffer
fields_of op.Connect = connect
fields_of op.ConnectParam = connect_param
fields_of op.Disconnect = disconnect
fields_of op.DisconnectParam = disconnect_param
fields_of op.SetChannelCount = set_channel_count
fields_of op.SetChannelCountMode = set_channel_count_mode
fields_of op.SetChannelInterpretation = set_channel_interpretation
fields_of op.SetCurve = set_curve
fields_of op.SetOversample = set_oversample
fields_of op.SetBuffer = set_buffer
fields_of op.SetLoop = set_loop
fields_of op.SetLoopStart = set_loop_start
fields_of op.SetLoopEnd = set_loop_end
fields_of op.CopyToChannel = copy_to_channel
fields_of op.Start = start
fields_of op.Stop = stop
fields_of (op.Param name) = param_op_fields name
fields_of op.Suspend = suspend
fields_of op.StartRendering = start_rendering
fields_of op.Resume = []
fields_of op.DecodeAudioData = decode_audio_data
fields_of op.ReadState = []
fields_of op.ReadTime = []
fields_of (op.LeftOut name) = []

-- the kind of a field that holds calls
abbrev pub is_calls : Kind → Bool
is_calls kind.Fix = false
is_calls kind.Time = false
is_calls kind.Count = false
is_calls kind.Version = false
is_calls kind.Name = false
is_calls kind.NameOrNull = false
is_calls kind.NewName = false
is_calls kind.Flag = false
is_calls kind.Fixes = false
is_calls kind.FixesOrNull = false
is_calls kind.Path = false
is_calls kind.Code = false
is_calls kind.Mode = false
is_calls kind.Interp = false
is_calls kind.Rate = false
is_calls kind.Oversample = false
is_calls kind.Calls = true
is_calls kind.Object = false

-- whether a call of the operation may hold further calls
abbrev pub has_calls : OpName → Bool
has_calls name = list_any (λ row. is_calls row.kind) (fields_of name)
