-- The calls of a script in document order: their places, their faults and what they mean.
use Rattle.std.specs.Prelude.{ℕ, ◌+◌, List, [], ◌∷◌, ◌++◌, length, bytes_eq, Bool, false, if◌then◌else◌, Option, Some, None, option_and_then, option_map, is_some}
use Rattle.serde_json.specs.Data.{Data, null, boolean, number, string, array, object, Items, no_items, item, Members, no_members, member}
use Rattle.serde_json.specs.Find.{get, as_object, as_str}
use Rattle.script_ast.specs.Entries as entry
use Rattle.script_ast.specs.Fields.{field_word}
use Rattle.script_ast.specs.Entries.{op_named, fields_of, has_calls}
use Rattle.script_ast.specs.declared.call_list.Call.{Call}
use Rattle.script_ast.specs.declared.clocks.Clock.{Clock}
use Rattle.script_ast.specs.declared.fields.Field.TheVariants as field
use Rattle.script_ast.specs.declared.entries.OpName.{OpName}
use Rattle.script_ast.specs.declared.entries.OpName.TheVariants.{Create, CreateDelay, CreateWaveShaper, CreateConvolver, CreateProcessor, CreateBufferSource, CreateBuffer, Connect, ConnectParam, Disconnect, DisconnectParam, SetChannelCount, SetChannelCountMode, SetChannelInterpretation, SetCurve, SetOversample, SetBuffer, SetLoop, SetLoopStart, SetLoopEnd, CopyToChannel, Start, Stop, Param, Suspend, StartRendering, Resume, DecodeAudioData, ReadState, ReadTime, LeftOut}
use Rattle.script_ast.specs.declared.operations.Op.{Op}
use Rattle.script_ast.specs.declared.operations.Op.TheVariants as op
use Rattle.script_ast.specs.declared.param_ops.ParamOpName.{ParamOpName}
use Rattle.script_ast.specs.declared.param_ops.ParamOpName.TheVariants as param
use Rattle.script_fields.specs.Fields.{is_there, fields_faults, lack_faults, text_in, text_or_null_in, fix_in, time_in, time_or_null_in, count_in, count_or_null_in, flag_in, fixes_in, fixes_or_null_in, code_in, mode_in, interp_in, rate_in, oversample_in}
use Rattle.script_fields.specs.declared.faults.ScriptErr.{ScriptErr}
use Rattle.script_fields.specs.declared.faults.ScriptErr.TheVariants.{WrongKind, UnknownOp}
use Rattle.script_json.specs.Creations.{kind_in}

-- a call of the document: its ordinal, the ordinal of the call whose `then` list it stands in (0 in the main list), and its JSON value
pub record Placed : Type 0 where
  pub ordinal : ℕ
  pub holder : ℕ
  pub value : Data

-- the operation that a call names
abbrev pub name_in : Data → Option OpName
name_in d = option_and_then op_named (option_and_then as_str (get (field_word field.Op) d))

-- whether a call has the field `then`, as its operation says
abbrev pub has_then : Option OpName → Bool
has_then None = false
has_then (Some name) = has_calls name

unfoldable mutual
  -- the calls of a list that stands after n calls, each followed by those that it holds
  pub placed : Items → ℕ → ℕ → List Placed
  placed no_items n holder = []
  placed (item d ds) n holder =
      let held = held_by d (n + 1) in
      record { ordinal = n + 1; holder = holder; value = d } ∷ held ++ placed ds (n + 1 + length held) holder

  -- the calls that the call n holds: those of its `then` list, where it has that field
  pub held_by : Data → ℕ → List Placed
  held_by null n = []
  held_by (boolean b) n = []
  held_by (number x) n = []
  held_by (string s) n = []
  held_by (array ds) n = []
  held_by (object ms) n = if has_then (name_in (object ms)) then then_calls ms n else []

  -- those of the member `then` among the members
  pub then_calls : Members → ℕ → List Placed
  then_calls no_members n = []
  then_calls (member key d ms) n = if bytes_eq (field_word field.Then) key then list_calls d n else then_calls ms n

  -- those of a value that is a list
  pub list_calls : Data → ℕ → List Placed
  list_calls null n = []
  list_calls (boolean b) n = []
  list_calls (number x) n = []
  list_calls (string s) n = []
  list_calls (array ds) n = placed ds n n
  list_calls (object ms) n = []

-- the faults of a disconnect whose fields are not those of one of its forms: where there is an input, `to` has to be there, and then the output
abbrev pub form_faults : ℕ → Data → List ScriptErr
form_faults n d = if is_there field.Input d then lack_faults n d field.To ++ lack_faults n d field.Output else []

-- the faults of a call n that lie in several of its fields together: only a disconnect has any
abbrev pub joint_faults : ℕ → Data → OpName → List ScriptErr
joint_faults n d Disconnect = form_faults n d
joint_faults n d _ = []

-- the faults of the fields of a call n of the operation: first those of each field, then those of several together
abbrev pub op_faults : Clock → ℕ → Data → OpName → List ScriptErr
op_faults clock n d name = fields_faults clock n d (fields_of name) ++ joint_faults n d name

-- the faults of a call n that names this operation, or none
abbrev pub name_faults : Clock → ℕ → Data → Option OpName → List ScriptErr
name_faults clock n d None = UnknownOp n ∷ []
name_faults clock n d (Some name) = op_faults clock n d name

-- the faults of a call: it is an object, its `op` names an operation, and the operation's fields are good, in this order
unfoldable pub call_faults : Clock → Placed → List ScriptErr
call_faults clock call = if is_some (as_object call.value) then name_faults clock call.ordinal call.value (name_in call.value) else WrongKind call.ordinal field.Call ∷ []

-- a call of an operation on a parameter with its fields
abbrev pub param_op_in : Clock → ParamOpName → Data → Op
param_op_in clock param.SetValue d = op.SetValue (text_in field.Node d) (text_in field.Param d) (fix_in entry.set_value field.Value d)
param_op_in clock param.SetValueAtTime d = op.SetValueAtTime (text_in field.Node d) (text_in field.Param d) (fix_in entry.set_value_at_time field.Value d) (time_in clock entry.set_value_at_time field.Time d)
param_op_in clock param.LinearRampToValueAtTime d = op.LinearRampToValueAtTime (text_in field.Node d) (text_in field.Param d) (fix_in entry.linear_ramp_to_value_at_time field.Value d) (time_in clock entry.linear_ramp_to_value_at_time field.Time d)
param_op_in clock param.SetValueCurveAtTime d = op.SetValueCurveAtTime (text_in field.Node d) (text_in field.Param d) (fixes_in field.Values d) (time_in clock entry.set_value_curve_at_time field.Time d) (time_in clock entry.set_value_curve_at_time field.Duration d)
param_op_in clock param.CancelScheduledValues d = op.CancelScheduledValues (text_in field.Node d) (text_in field.Param d) (time_in clock entry.cancel_scheduled_values field.Time d)
param_op_in clock param.CancelAndHoldAtTime d = op.CancelAndHoldAtTime (text_in field.Node d) (text_in field.Param d) (time_in clock entry.cancel_and_hold_at_time field.Time d)
param_op_in clock param.SetAutomationRate d = op.SetAutomationRate (text_in field.Node d) (text_in field.Param d) (rate_in field.Value d)
param_op_in clock param.ExponentialRampToValueAtTime d = op.ExponentialRampToValueAtTime (text_in field.Node d) (text_in field.Param d)
param_op_in clock param.SetTargetAtTime d = op.SetTargetAtTime (text_in field.Node d) (text_in field.Param d)
param_op_in clock param.ReadValue d = op.ReadValue (text_in field.Node d) (text_in field.Param d)

-- a call of an operation with its fields
abbrev pub op_in : Clock → OpName → Data → Op
op_in clock (Create name) d = op.Create (text_in field.As d) (kind_in name d)
op_in clock CreateDelay d = op.CreateDelay (text_in field.As d) (fix_in entry.create_delay field.MaxDelayTime d) (fix_in entry.create_delay field.DelayTime d)
op_in clock CreateWaveShaper d = op.CreateWaveShaper (text_in field.As d) (fixes_or_null_in field.Curve d) (oversample_in entry.create_wave_shaper field.Oversample d)
op_in clock CreateConvolver d = op.CreateConvolver (text_in field.As d) (text_or_null_in field.Buffer d) (flag_in entry.create_convolver field.DisableNormalization d)
op_in clock CreateProcessor d = op.CreateProcessor (text_in field.As d) (code_in field.Code d)
op_in clock CreateBufferSource d = op.CreateBufferSource (text_in field.As d) (text_or_null_in field.Buffer d) (flag_in entry.create_buffer_source field.Loop d) (time_in clock entry.create_buffer_source field.LoopStart d) (time_in clock entry.create_buffer_source field.LoopEnd d) (fix_in entry.create_buffer_source field.PlaybackRate d)
op_in clock CreateBuffer d = op.CreateBuffer (text_in field.As d) (count_in entry.create_buffer field.Channels d) (count_in entry.create_buffer field.Length d) (count_in entry.create_buffer field.Rate d)
op_in clock Connect d = op.Connect (text_in field.From d) (count_in entry.connect field.Output d) (text_in field.To d) (count_in entry.connect field.Input d)
op_in clock ConnectParam d = op.ConnectParam (text_in field.From d) (count_in entry.connect_param field.Output d) (text_in field.To d) (text_in field.Param d)
op_in clock Disconnect d = op.Disconnect (text_in field.From d) (count_or_null_in field.Output d) (text_or_null_in field.To d) (count_or_null_in field.Input d)
op_in clock DisconnectParam d = op.DisconnectParam (text_in field.From d) (text_in field.To d) (text_in field.Param d) (count_or_null_in field.Output d)
op_in clock SetChannelCount d = op.SetChannelCount (text_in field.Node d) (count_in entry.set_channel_count field.Value d)
op_in clock SetChannelCountMode d = op.SetChannelCountMode (text_in field.Node d) (mode_in field.Value d)
op_in clock SetChannelInterpretation d = op.SetChannelInterpretation (text_in field.Node d) (interp_in field.Value d)
op_in clock SetCurve d = op.SetCurve (text_in field.Node d) (fixes_or_null_in field.Curve d)
op_in clock SetOversample d = op.SetOversample (text_in field.Node d) (oversample_in entry.set_oversample field.Value d)
op_in clock SetBuffer d = op.SetBuffer (text_in field.Node d) (text_or_null_in field.Buffer d)
op_in clock SetLoop d = op.SetLoop (text_in field.Node d) (flag_in entry.set_loop field.Value d)
op_in clock SetLoopStart d = op.SetLoopStart (text_in field.Node d) (time_in clock entry.set_loop_start field.Value d)
op_in clock SetLoopEnd d = op.SetLoopEnd (text_in field.Node d) (time_in clock entry.set_loop_end field.Value d)
op_in clock CopyToChannel d = op.CopyToChannel (text_in field.Buffer d) (count_in entry.copy_to_channel field.Channel d) (fixes_in field.Samples d) (count_in entry.copy_to_channel field.At d)
op_in clock Start d = op.Start (text_in field.Node d) (time_in clock entry.start field.When d) (time_in clock entry.start field.Offset d) (time_or_null_in clock field.Duration d)
op_in clock Stop d = op.Stop (text_in field.Node d) (time_in clock entry.stop field.When d)
op_in clock (Param name) d = param_op_in clock name d
op_in clock Suspend d = op.Suspend (time_in clock entry.suspend field.Time d)
op_in clock StartRendering d = op.StartRendering
op_in clock Resume d = op.Resume
op_in clock DecodeAudioData d = op.DecodeAudioData (text_in field.As d) (text_in field.Path d)
op_in clock ReadState d = op.ReadState
op_in clock ReadTime d = op.ReadTime
op_in clock (LeftOut name) d = op.LeftOut name

-- what a call means; none where its operation is unknown
unfoldable pub call_of : Clock → Placed → Option Call
call_of clock call = option_map (λ name. record { ordinal = call.ordinal; holder = call.holder; op = op_in clock name call.value }) (name_in call.value)
