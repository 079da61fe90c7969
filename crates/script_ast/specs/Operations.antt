-- The operations: the ranges of their fields, what they are done to, and the names that they give.
use Rattle.std.specs.Prelude.{ℕ, List, All, Bool, IsTrue, Option, Some, None, is_some}
use Rattle.wa_base.specs.Numbers.{IsFix}
use Rattle.node_table.specs.Kinds.{IsCreatable, IsOf32Bits}
use Rattle.node_table.specs.declared.kinds.Kind.{Kind}
use Rattle.script_ast.specs.Entries.{creation_of}
use Rattle.script_ast.specs.Ranges.{IsInstr, IsTime, IsTimeIfSome, IsCount, IsCountIfSome, IsText, IsTextIfSome, AreFixes, AreFixesIfSome, IsNewName, IsPath, IsDisconnectForm}
use Rattle.script_ast.specs.declared.operations.Interface.{Interface}
use Rattle.script_ast.specs.declared.operations.Interface.TheVariants as interface
use Rattle.script_ast.specs.declared.operations.Op.{Op}
use Rattle.script_ast.specs.declared.operations.Op.TheVariants as op

-- a node of the kind is created by an operation whose fields are what the kind has, and its name
abbrev pub is_told_by_kind : Kind → Bool
is_told_by_kind kind = is_some (creation_of kind)

-- each field of an operation is in its range, each name that it has is a text (a new name is one since it is ASCII), and a disconnect has one of its forms
abbrev pub IsInRange : Op → Type 0
IsInRange (op.Create name kind) = IsNewName name × IsCreatable kind × IsOf32Bits kind × IsTrue (is_told_by_kind kind)
IsInRange (op.CreateDelay name max_delay_time delay_time) = IsNewName name × IsFix max_delay_time × IsFix delay_time
IsInRange (op.CreateWaveShaper name curve oversample) = IsNewName name × AreFixesIfSome curve
IsInRange (op.CreateConvolver name buffer disable_normalization) = IsNewName name × IsTextIfSome buffer
IsInRange (op.CreateProcessor name code) = IsNewName name × All IsInstr code
IsInRange (op.CreateBufferSource name buffer looping loop_start loop_end playback_rate) = IsNewName name × IsTime loop_start × IsTime loop_end × IsFix playback_rate × IsTextIfSome buffer
IsInRange (op.CreateBuffer name channels frames rate) = IsNewName name × IsCount channels × IsCount frames × IsCount rate
IsInRange (op.LeftOut name) = Unit {0}
IsInRange (op.Connect from output to input) = IsCount output × IsCount input × IsText from × IsText to
IsInRange (op.ConnectParam from output to param) = IsCount output × IsText from × IsText to × IsText param
IsInRange (op.Disconnect from output to input) = IsCountIfSome output × IsCountIfSome input × IsDisconnectForm output to input × IsText from × IsTextIfSome to
IsInRange (op.DisconnectParam from to param output) = IsCountIfSome output × IsText from × IsText to × IsText param
IsInRange (op.SetChannelCount node value) = IsCount value × IsText node
IsInRange (op.SetChannelCountMode node value) = IsText node
IsInRange (op.SetChannelInterpretation node value) = IsText node
IsInRange (op.SetCurve node curve) = AreFixesIfSome curve × IsText node
IsInRange (op.SetOversample node value) = IsText node
IsInRange (op.SetBuffer node buffer) = IsText node × IsTextIfSome buffer
IsInRange (op.SetLoop node value) = IsText node
IsInRange (op.SetLoopStart node value) = IsTime value × IsText node
IsInRange (op.SetLoopEnd node value) = IsTime value × IsText node
IsInRange (op.CopyToChannel buffer channel samples at) = IsCount channel × AreFixes samples × IsCount at × IsText buffer
IsInRange (op.Start node when offset duration) = IsTime when × IsTime offset × IsTimeIfSome duration × IsText node
IsInRange (op.Stop node when) = IsTime when × IsText node
IsInRange (op.SetValue node param value) = IsFix value × IsText node × IsText param
IsInRange (op.SetValueAtTime node param value time) = IsFix value × IsTime time × IsText node × IsText param
IsInRange (op.LinearRampToValueAtTime node param value time) = IsFix value × IsTime time × IsText node × IsText param
IsInRange (op.SetValueCurveAtTime node param values time duration) = AreFixes values × IsTime time × IsTime duration × IsText node × IsText param
IsInRange (op.CancelScheduledValues node param time) = IsTime time × IsText node × IsText param
IsInRange (op.CancelAndHoldAtTime node param time) = IsTime time × IsText node × IsText param
IsInRange (op.SetAutomationRate node param value) = IsText node × IsText param
IsInRange (op.ExponentialRampToValueAtTime node param) = IsText node × IsText param
IsInRange (op.SetTargetAtTime node param) = IsText node × IsText param
IsInRange (op.ReadValue node param) = IsText node × IsText param
IsInRange (op.Suspend time) = IsTime time
IsInRange op.StartRendering = Unit {0}
IsInRange op.Resume = Unit {0}
IsInRange (op.DecodeAudioData name path) = IsNewName name × IsPath path × IsText path
IsInRange op.ReadState = Unit {0}
IsInRange op.ReadTime = Unit {0}

-- what an operation is done to
abbrev pub interface_of : Op → Interface
interface_of (op.Create name kind) = interface.Creation
interface_of (op.CreateDelay name max_delay_time delay_time) = interface.Creation
interface_of (op.CreateWaveShaper name curve oversample) = interface.Shaper
interface_of (op.CreateConvolver name buffer disable_normalization) = interface.Buffer
interface_of (op.CreateProcessor name code) = interface.Processor
interface_of (op.CreateBufferSource name buffer looping loop_start loop_end playback_rate) = interface.Buffer
interface_of (op.CreateBuffer name channels frames rate) = interface.Buffer
interface_of (op.LeftOut name) = interface.LeftOut
interface_of (op.Connect from output to input) = interface.Node
interface_of (op.ConnectParam from output to param) = interface.Param
interface_of (op.Disconnect from output to input) = interface.Node
interface_of (op.DisconnectParam from to param output) = interface.Param
interface_of (op.SetChannelCount node value) = interface.Node
interface_of (op.SetChannelCountMode node value) = interface.Node
interface_of (op.SetChannelInterpretation node value) = interface.Node
interface_of (op.SetCurve node curve) = interface.Shaper
interface_of (op.SetOversample node value) = interface.Shaper
interface_of (op.SetBuffer node buffer) = interface.Source
interface_of (op.SetLoop node value) = interface.Source
interface_of (op.SetLoopStart node value) = interface.Source
interface_of (op.SetLoopEnd node value) = interface.Source
interface_of (op.CopyToChannel buffer channel samples at) = interface.Buffer
interface_of (op.Start node when offset duration) = interface.Source
interface_of (op.Stop node when) = interface.Source
interface_of (op.SetValue node param value) = interface.Timeline
interface_of (op.SetValueAtTime node param value time) = interface.Timeline
interface_of (op.LinearRampToValueAtTime node param value time) = interface.Timeline
interface_of (op.SetValueCurveAtTime node param values time duration) = interface.Timeline
interface_of (op.CancelScheduledValues node param time) = interface.Timeline
interface_of (op.CancelAndHoldAtTime node param time) = interface.Timeline
interface_of (op.SetAutomationRate node param value) = interface.Param
interface_of (op.ExponentialRampToValueAtTime node param) = interface.Param
interface_of (op.SetTargetAtTime node param) = interface.Param
interface_of (op.ReadValue node param) = interface.Param
interface_of (op.Suspend time) = interface.Context
interface_of op.StartRendering = interface.Context
interface_of op.Resume = interface.Context
interface_of (op.DecodeAudioData name path) = interface.Asset
interface_of op.ReadState = interface.Context
interface_of op.ReadTime = interface.Context

-- the name that an operation gives to what it creates
abbrev pub new_name : Op → Option (List ℕ)
new_name (op.Create name kind) = Some name
new_name (op.CreateDelay name max_delay_time delay_time) = Some name
new_name (op.CreateWaveShaper name curve oversample) = Some name
new_name (op.CreateConvolver name buffer disable_normalization) = Some name
new_name (op.CreateProcessor name code) = Some name
new_name (op.CreateBufferSource name buffer looping loop_start loop_end playback_rate) = Some name
new_name (op.CreateBuffer name channels frames rate) = Some name
new_name (op.DecodeAudioData name path) = Some name
new_name other = None
