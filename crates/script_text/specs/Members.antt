-- The members of a call: the fields of its operation, with their JSON values.
use Rattle.std.specs.Prelude.{ℕ, List, [], ◌∷◌, map, ℤ, Option, Some, None, option_map}
use Rattle.serde_json.specs.Data.{Data, null, boolean, number, string, array, Items, no_items, item, unsigned}
use Rattle.serde_json.specs.Find.{of_integer}
use Rattle.serde_json.specs.View.{items_of}
use Rattle.wa_base.specs.GraphNames.{mode_word, interp_word, rate_word}
use Rattle.node_table.specs.declared.code.Instr.{Instr}
use Rattle.script_ast.specs.Entries.{creation_of}
use Rattle.script_ast.specs.Words.{oversample_word, instr_text}
use Rattle.script_ast.specs.declared.entries.OpName.{OpName}
use Rattle.script_ast.specs.declared.entries.OpName.TheVariants as named
use Rattle.script_ast.specs.declared.fields.Field.{Field}
use Rattle.script_ast.specs.declared.fields.Field.TheVariants as field
use Rattle.script_ast.specs.declared.operations.Op.{Op}
use Rattle.script_ast.specs.declared.operations.Op.TheVariants as op
use Rattle.script_ast.specs.declared.param_ops.ParamOpName.TheVariants as param
use Rattle.script_json.specs.Creations.{numbers_of}
use Rattle.script_json.specs.Numbers.{Number}
use Rattle.script_json.specs.Numbers as told
use Rattle.script_text.specs.Seconds.{time_text}

-- ---- values

-- a value that may be missing: null where it is
abbrev pub or_null : {A : Type 0} → (A → Data) → Option A → Data
or_null value None = null
or_null value (Some a) = value a

-- a value in units of 2^-24
abbrev pub fix : ℤ → Data
fix z = number (of_integer z)

-- such values in their order
abbrev pub fixes : List ℤ → Data
fixes zs = array (items_of (map fix zs))

-- a count
abbrev pub count : ℕ → Data
count n = number (unsigned n)

-- a time in frames, at so many frames a second
abbrev pub time : ℕ → ℤ → Data
time rate frames = string (time_text rate frames)

-- an instruction of a program
abbrev pub instr_data : Instr → Data
instr_data instr = string (instr_text instr)

-- the instructions of a program in their order
abbrev pub code : List Instr → Data
code instrs = array (items_of (map instr_data instrs))

-- ---- what each operation gives

-- a number of a creation as a JSON value
abbrev pub number_data : Number → Data
number_data (told.fix z) = fix z
number_data (told.count n) = count n
number_data (told.fixes zs) = fixes zs

-- a field that holds such a number
abbrev pub number_field : Field × Number → Field × Data
number_field given = (given.0, number_data given.1)

-- the name of an operation; none for the creation of a kind that no script creates so
abbrev pub name_of : Op → Option OpName
name_of (op.Create name kind) = option_map named.Create (creation_of kind)
name_of (op.CreateDelay name max_delay_time delay_time) = Some named.CreateDelay
name_of (op.CreateWaveShaper name curve oversample) = Some named.CreateWaveShaper
name_of (op.CreateConvolver name buffer disable_normalization) = Some named.CreateConvolver
name_of (op.CreateProcessor name program) = Some named.CreateProcessor
name_of (op.CreateBufferSource name buffer looping loop_start loop_end playback_rate) = Some named.CreateBufferSource
name_of (op.CreateBuffer name channels frames rate) = Some named.CreateBuffer
name_of (op.LeftOut left_out) = Some (named.LeftOut left_out)
name_of (op.Connect from output to input) = Some named.Connect
name_of (op.ConnectParam from output to parameter) = Some named.ConnectParam
name_of (op.Disconnect from output to input) = Some named.Disconnect
name_of (op.DisconnectParam from to parameter output) = Some named.DisconnectParam
name_of (op.SetChannelCount node value) = Some named.SetChannelCount
name_of (op.SetChannelCountMode node value) = Some named.SetChannelCountMode
name_of (op.SetChannelInterpretation node value) = Some named.SetChannelInterpretation
name_of (op.SetCurve node curve) = Some named.SetCurve
name_of (op.SetOversample node value) = Some named.SetOversample
name_of (op.SetBuffer node buffer) = Some named.SetBuffer
name_of (op.SetLoop node value) = Some named.SetLoop
name_of (op.SetLoopStart node value) = Some named.SetLoopStart
name_of (op.SetLoopEnd node value) = Some named.SetLoopEnd
name_of (op.CopyToChannel buffer channel samples at) = Some named.CopyToChannel
name_of (op.Start node when offset duration) = Some named.Start
name_of (op.Stop node when) = Some named.Stop
name_of (op.SetValue node parameter value) = Some (named.Param param.SetValue)
name_of (op.SetValueAtTime node parameter value at) = Some (named.Param param.SetValueAtTime)
name_of (op.LinearRampToValueAtTime node parameter value at) = Some (named.Param param.LinearRampToValueAtTime)
name_of (op.SetValueCurveAtTime node parameter values at duration) = Some (named.Param param.SetValueCurveAtTime)
name_of (op.CancelScheduledValues node parameter at) = Some (named.Param param.CancelScheduledValues)
name_of (op.CancelAndHoldAtTime node parameter at) = Some (named.Param param.CancelAndHoldAtTime)
name_of (op.SetAutomationRate node parameter value) = Some (named.Param param.SetAutomationRate)
name_of (op.ExponentialRampToValueAtTime node parameter) = Some (named.Param param.ExponentialRampToValueAtTime)
name_of (op.SetTargetAtTime node parameter) = Some (named.Param param.SetTargetAtTime)
name_of (op.ReadValue node parameter) = Some (named.Param param.ReadValue)
name_of (op.Suspend at) = Some named.Suspend
name_of op.StartRendering = Some named.StartRendering
name_of op.Resume = Some named.Resume
name_of (op.DecodeAudioData name path) = Some named.DecodeAudioData
name_of op.ReadState = Some named.ReadState
name_of op.ReadTime = Some named.ReadTime

-- the field of the calls that a call holds, where it holds any
abbrev pub then_field : Items → List (Field × Data)
then_field no_items = []
then_field (item d ds) = (field.Then, array (item d ds)) ∷ []

-- the fields of an operation in the order of its entry, defaults and nulls included, with times at so many frames a second and with these calls in its `then` list, if it has one
abbrev pub fields_given : ℕ → Items → Op → List (Field × Data)
fields_given rate held (op.Create name kind) = (field.As, string name) ∷ map number_field (numbers_of kind)
fields_given rate held (op.CreateDelay name max_delay_time delay_time) = (field.As, string name) ∷ (field.MaxDelayTime, fix max_delay_time) ∷ (field.DelayTime, fix delay_time) ∷ []
fields_given rate held (op.CreateWaveShaper name curve oversample) = (field.As, string name) ∷ (field.Curve, or_null fixes curve) ∷ (field.Oversample, string (oversample_word oversample)) ∷ []
fields_given rate held (op.CreateConvolver name buffer disable_normalization) = (field.As, string name) ∷ (field.Buffer, or_null string buffer) ∷ (field.DisableNormalization, boolean disable_normalization) ∷ []
fields_given rate held (op.CreateProcessor name program) = (field.As, string name) ∷ (field.Code, code program) ∷ []
fields_given rate held (op.CreateBufferSource name buffer looping loop_start loop_end playback_rate) =
    (field.As, string name) ∷ (field.Buffer, or_null string buffer) ∷ (field.Loop, boolean looping) ∷ (field.LoopStart, time rate loop_start) ∷ (field.LoopEnd, time rate loop_end)
    ∷ (field.PlaybackRate, fix playback_rate) ∷ []
fields_given rate held (op.CreateBuffer name channels frames buffer_rate) = (field.As, string name) ∷ (field.Channels, count channels) ∷ (field.Length, count frames) ∷ (field.Rate, count buffer_rate) ∷ []
fields_given rate held (op.LeftOut left_out) = []
fields_given rate held (op.Connect from output to input) = (field.From, string from) ∷ (field.Output, count output) ∷ (field.To, string to) ∷ (field.Input, count input) ∷ []
fields_given rate held (op.ConnectParam from output to parameter) = (field.From, string from) ∷ (field.Output, count output) ∷ (field.To, string to) ∷ (field.Param, string parameter) ∷ []
fields_given rate held (op.Disconnect from output to input) = (field.From, string from) ∷ (field.Output, or_null count output) ∷ (field.To, or_null string to) ∷ (field.Input, or_null count input) ∷ []
fields_given rate held (op.DisconnectParam from to parameter output) = (field.From, string from) ∷ (field.To, string to) ∷ (field.Param, string parameter) ∷ (field.Output, or_null count output) ∷ []
fields_given rate held (op.SetChannelCount node value) = (field.Node, string node) ∷ (field.Value, count value) ∷ []
fields_given rate held (op.SetChannelCountMode node value) = (field.Node, string node) ∷ (field.Value, string (mode_word value)) ∷ []
fields_given rate held (op.SetChannelInterpretation node value) = (field.Node, string node) ∷ (field.Value, string (interp_word value)) ∷ []
fields_given rate held (op.SetCurve node curve) = (field.Node, string node) ∷ (field.Curve, or_null fixes curve) ∷ []
fields_given rate held (op.SetOversample node value) = (field.Node, string node) ∷ (field.Value, string (oversample_word value)) ∷ []
fields_given rate held (op.SetBuffer node buffer) = (field.Node, string node) ∷ (field.Buffer, or_null string buffer) ∷ []
fields_given rate held (op.SetLoop node value) = (field.Node, string node) ∷ (field.Value, boolean value) ∷ []
fields_given rate held (op.SetLoopStart node value) = (field.Node, string node) ∷ (field.Value, time rate value) ∷ []
fields_given rate held (op.SetLoopEnd node value) = (field.Node, string node) ∷ (field.Value, time rate value) ∷ []
fields_given rate held (op.CopyToChannel buffer channel samples at) = (field.Buffer, string buffer) ∷ (field.Channel, count channel) ∷ (field.Samples, fixes samples) ∷ (field.At, count at) ∷ []
fields_given rate held (op.Start node when offset duration) = (field.Node, string node) ∷ (field.When, time rate when) ∷ (field.Offset, time rate offset) ∷ (field.Duration, or_null (time rate) duration) ∷ []
fields_given rate held (op.Stop node when) = (field.Node, string node) ∷ (field.When, time rate when) ∷ []
fields_given rate held (op.SetValue node parameter value) = (field.Node, string node) ∷ (field.Param, string parameter) ∷ (field.Value, fix value) ∷ []
fields_given rate held (op.SetValueAtTime node parameter value at) = (field.Node, string node) ∷ (field.Param, string parameter) ∷ (field.Value, fix value) ∷ (field.Time, time rate at) ∷ []
fields_given rate held (op.LinearRampToValueAtTime node parameter value at) = (field.Node, string node) ∷ (field.Param, string parameter) ∷ (field.Value, fix value) ∷ (field.Time, time rate at) ∷ []
fields_given rate held (op.SetValueCurveAtTime node parameter values at duration) =
    (field.Node, string node) ∷ (field.Param, string parameter) ∷ (field.Values, fixes values) ∷ (field.Time, time rate at) ∷ (field.Duration, time rate duration) ∷ []
fields_given rate held (op.CancelScheduledValues node parameter at) = (field.Node, string node) ∷ (field.Param, string parameter) ∷ (field.Time, time rate at) ∷ []
fields_given rate held (op.CancelAndHoldAtTime node parameter at) = (field.Node, string node) ∷ (field.Param, string parameter) ∷ (field.Time, time rate at) ∷ []
fields_given rate held (op.SetAutomationRate node parameter value) = (field.Node, string node) ∷ (field.Param, string parameter) ∷ (field.Value, string (rate_word value)) ∷ []
fields_given rate held (op.ExponentialRampToValueAtTime node parameter) = (field.Node, string node) ∷ (field.Param, string parameter) ∷ []
fields_given rate held (op.SetTargetAtTime node parameter) = (field.Node, string node) ∷ (field.Param, string parameter) ∷ []
fields_given rate held (op.ReadValue node parameter) = (field.Node, string node) ∷ (field.Param, string parameter) ∷ []
fields_given rate held (op.Suspend at) = (field.Time, time rate at) ∷ then_field held
fields_given rate held op.StartRendering = then_field held
fields_given rate held op.Resume = []
fields_given rate held (op.DecodeAudioData name path) = (field.As, string name) ∷ (field.Path, string path) ∷ []
fields_given rate held op.ReadState = []
fields_given rate held op.ReadTime = []
