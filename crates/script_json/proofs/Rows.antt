-- Texts that are written out, and what reading them gives.
use Rattle.std.specs.Prelude.{◌≡◌, codes, Ok, Err, Some, None, true, false, pos, neg_ℤ, refl, [], ◌∷◌}
use Rattle.serde_json.proofs.OnLiterals.{serde_json_on_literals}
use Rattle.serde_json.specs.Read.{read}
use Rattle.node_table.specs.declared.equation.Equation.TheVariants.{Filter}
use Rattle.node_table.specs.declared.kinds.Kind.TheVariants as node
use Rattle.script_ast.specs.Entries.{op_named}
use Rattle.wa_base.specs.declared.graph_names.Mode.TheVariants.{ClampedMax}
use Rattle.wa_base.specs.declared.graph_names.Interp.TheVariants.{Discrete}
use Rattle.wa_base.specs.declared.graph_names.Rate.TheVariants.{K}
use Rattle.node_table.specs.declared.code.Instr.TheVariants.{Input, Push, Add}
use Rattle.script_fields.specs.Instructions.{code_of, instr_of, plain_instr_of}
use Rattle.script_fields.specs.Seconds.{frames_of_seconds}
use Rattle.script_ast.specs.Ranges.{is_new_name}
use Rattle.script_ast.specs.Words.{mode_named, interp_named, rate_named, oversample_named}
use Rattle.script_ast.specs.declared.operations.Oversample.TheVariants.{Off, Two, Four}
use Rattle.script_ast.specs.declared.fields.Field.TheVariants as field
use Rattle.script_ast.specs.declared.operations.Op.TheVariants as op
use Rattle.script_json.specs.Calls.{placed, call_faults, call_of}
use Rattle.script_fields.specs.Fields.{number_in, flag_in, fixes_of, fixes_or_null_in, text_in, time_or_null_in, count_or_null_in, text_or_null_in, mode_in, interp_in, rate_in, oversample_in}
use Rattle.script_json.specs.Script.{context_in, clock_of, main_list, calls_of, head_faults, script_faults, script_in, script_or_fault}
use Rattle.script_fields.specs.declared.faults.ScriptErr.TheVariants.{BadJson, MissingField, WrongKind, UnknownOp, OutOfRange}

no_bytes : script_or_fault (read []) ≡ Err BadJson
unfolding serde_json_on_literals
no_bytes = refl

no_object : script_or_fault (read (codes "[]")) ≡ Err (WrongKind 0 field.Script)
unfolding serde_json_on_literals context_in clock_of main_list calls_of head_faults script_faults placed
no_object = refl

no_node : script_or_fault (read (codes "{\"version\":1,\"context\":{\"channels\":1,\"length\":1,\"rate\":1},\"calls\":[{\"op\":\"start\"}]}")) ≡ Err (MissingField 1 field.Node)
unfolding serde_json_on_literals context_in clock_of main_list calls_of head_faults script_faults placed call_faults op_named
no_node = refl

-- the call that startRendering holds is read before the one after it
held_first : script_or_fault (read (codes "{\"version\":1,\"context\":{\"channels\":1,\"length\":1,\"rate\":1},\"calls\":[{\"op\":\"startRendering\",\"then\":[{}]},7]}")) ≡ Err (UnknownOp 2)
unfolding serde_json_on_literals context_in clock_of main_list calls_of head_faults script_faults placed call_faults op_named
held_first = refl

started : script_or_fault (read (codes "{\"version\":1,\"context\":{\"channels\":1,\"length\":128,\"rate\":48000},\"calls\":[{\"op\":\"start\",\"node\":\"c\",\"when\":5}]}"))
    ≡ Ok (record { context = record { channels = 1; length = 128; rate = 48000; quantum = 128 }; calls = record { ordinal = 1; holder = 0; op = op.Start (codes "c") (pos 5) (pos 0) None } ∷ [] })
unfolding serde_json_on_literals context_in clock_of main_list calls_of head_faults script_faults script_in placed call_faults call_of op_named number_in text_in time_or_null_in
started = refl

-- a gain of 1.0 where none is given
gained : script_or_fault (read (codes "{\"version\":1,\"context\":{\"channels\":1,\"length\":1,\"rate\":1},\"calls\":[{\"op\":\"createGain\",\"as\":\"g\"}]}"))
    ≡ Ok (record { context = record { channels = 1; length = 1; rate = 1; quantum = 128 }; calls = record { ordinal = 1; holder = 0; op = op.Create (codes "g") (node.Gain (pos 16777216)) } ∷ [] })
unfolding serde_json_on_literals context_in clock_of main_list calls_of head_faults script_faults script_in placed call_faults call_of op_named is_new_name number_in text_in
gained = refl

gain_too_high : script_or_fault (read (codes "{\"version\":1,\"context\":{\"channels\":1,\"length\":1,\"rate\":1},\"calls\":[{\"op\":\"createGain\",\"as\":\"g\",\"gain\":2147483648}]}")) ≡ Err (OutOfRange 1 field.Gain)
unfolding serde_json_on_literals context_in clock_of main_list calls_of head_faults script_faults placed call_faults op_named is_new_name
gain_too_high = refl

-- the first form of a disconnect, in which null counts as absent
all_cut : script_or_fault (read (codes "{\"version\":1,\"context\":{\"channels\":1,\"length\":1,\"rate\":1},\"calls\":[{\"op\":\"disconnect\",\"from\":\"a\",\"to\":null}]}"))
    ≡ Ok (record { context = record { channels = 1; length = 1; rate = 1; quantum = 128 }; calls = record { ordinal = 1; holder = 0; op = op.Disconnect (codes "a") None None None } ∷ [] })
unfolding serde_json_on_literals context_in clock_of main_list calls_of head_faults script_faults script_in placed call_faults call_of op_named number_in text_in count_or_null_in text_or_null_in
all_cut = refl

-- and the last one
one_cut : script_or_fault (read (codes "{\"version\":1,\"context\":{\"channels\":1,\"length\":1,\"rate\":1},\"calls\":[{\"op\":\"disconnect\",\"from\":\"a\",\"output\":1,\"to\":\"b\",\"input\":0}]}"))
    ≡ Ok (record { context = record { channels = 1; length = 1; rate = 1; quantum = 128 }; calls = record { ordinal = 1; holder = 0; op = op.Disconnect (codes "a") (Some 1) (Some (codes "b")) (Some 0) } ∷ [] })
unfolding serde_json_on_literals context_in clock_of main_list calls_of head_faults script_faults script_in placed call_faults call_of op_named number_in text_in count_or_null_in text_or_null_in
one_cut = refl

-- an input without `to`, and one with it and without the output
input_alone : script_or_fault (read (codes "{\"version\":1,\"context\":{\"channels\":1,\"length\":1,\"rate\":1},\"calls\":[{\"op\":\"disconnect\",\"from\":\"a\",\"output\":0,\"input\":0}]}")) ≡ Err (MissingField 1 field.To)
unfolding serde_json_on_literals context_in clock_of main_list calls_of head_faults script_faults placed call_faults op_named
input_alone = refl

input_without_output : script_or_fault (read (codes "{\"version\":1,\"context\":{\"channels\":1,\"length\":1,\"rate\":1},\"calls\":[{\"op\":\"disconnect\",\"from\":\"a\",\"output\":null,\"to\":\"b\",\"input\":0}]}")) ≡ Err (MissingField 1 field.Output)
unfolding serde_json_on_literals context_in clock_of main_list calls_of head_faults script_faults placed call_faults op_named
input_without_output = refl

-- the fault of a field comes before it
field_first : script_or_fault (read (codes "{\"version\":1,\"context\":{\"channels\":1,\"length\":1,\"rate\":1},\"calls\":[{\"op\":\"disconnect\",\"from\":\"a\",\"input\":-1}]}")) ≡ Err (OutOfRange 1 field.Input)
unfolding serde_json_on_literals context_in clock_of main_list calls_of head_faults script_faults placed call_faults op_named
field_first = refl

-- the words of a mode, and of an interpretation
mode_set : script_or_fault (read (codes "{\"version\":1,\"context\":{\"channels\":1,\"length\":1,\"rate\":1},\"calls\":[{\"op\":\"setChannelCountMode\",\"node\":\"a\",\"value\":\"clamped-max\"}]}")) ≡ Ok (record { context = record { channels = 1; length = 1; rate = 1; quantum = 128 }; calls = record { ordinal = 1; holder = 0; op = op.SetChannelCountMode (codes "a") ClampedMax } ∷ [] })
unfolding serde_json_on_literals context_in clock_of main_list calls_of head_faults script_faults script_in placed call_faults call_of op_named mode_named number_in text_in mode_in
mode_set = refl

interp_set : script_or_fault (read (codes "{\"version\":1,\"context\":{\"channels\":1,\"length\":1,\"rate\":1},\"calls\":[{\"op\":\"setChannelInterpretation\",\"node\":\"a\",\"value\":\"discrete\"}]}")) ≡ Ok (record { context = record { channels = 1; length = 1; rate = 1; quantum = 128 }; calls = record { ordinal = 1; holder = 0; op = op.SetChannelInterpretation (codes "a") Discrete } ∷ [] })
unfolding serde_json_on_literals context_in clock_of main_list calls_of head_faults script_faults script_in placed call_faults call_of op_named interp_named number_in text_in interp_in
interp_set = refl

-- a word of no list is out of range, one in capitals too, and what is no text is of another kind
mode_in_capitals : script_or_fault (read (codes "{\"version\":1,\"context\":{\"channels\":1,\"length\":1,\"rate\":1},\"calls\":[{\"op\":\"setChannelCountMode\",\"node\":\"a\",\"value\":\"Max\"}]}")) ≡ Err (OutOfRange 1 field.Value)
unfolding serde_json_on_literals context_in clock_of main_list calls_of head_faults script_faults placed call_faults op_named mode_named
mode_in_capitals = refl

mode_as_interp : script_or_fault (read (codes "{\"version\":1,\"context\":{\"channels\":1,\"length\":1,\"rate\":1},\"calls\":[{\"op\":\"setChannelInterpretation\",\"node\":\"a\",\"value\":\"max\"}]}")) ≡ Err (OutOfRange 1 field.Value)
unfolding serde_json_on_literals context_in clock_of main_list calls_of head_faults script_faults placed call_faults op_named interp_named
mode_as_interp = refl

mode_is_null : script_or_fault (read (codes "{\"version\":1,\"context\":{\"channels\":1,\"length\":1,\"rate\":1},\"calls\":[{\"op\":\"setChannelCountMode\",\"node\":\"a\",\"value\":null}]}")) ≡ Err (WrongKind 1 field.Value)
unfolding serde_json_on_literals context_in clock_of main_list calls_of head_faults script_faults placed call_faults op_named mode_named
mode_is_null = refl

-- a source without a buffer, which does not loop
buffer_source : script_or_fault (read (codes "{\"version\":1,\"context\":{\"channels\":1,\"length\":1,\"rate\":1},\"calls\":[{\"op\":\"createBufferSource\",\"as\":\"s\"}]}"))
    ≡ Ok (record { context = record { channels = 1; length = 1; rate = 1; quantum = 128 }; calls = record { ordinal = 1; holder = 0; op = op.CreateBufferSource (codes "s") None false (pos 0) (pos 0) (pos 16777216) } ∷ [] })
unfolding serde_json_on_literals context_in clock_of main_list calls_of head_faults script_faults script_in placed call_faults call_of op_named is_new_name number_in flag_in text_in text_or_null_in
buffer_source = refl

-- a convolver without a buffer, whose response is normalized
convolver : script_or_fault (read (codes "{\"version\":1,\"context\":{\"channels\":1,\"length\":1,\"rate\":1},\"calls\":[{\"op\":\"createConvolver\",\"as\":\"v\"}]}"))
    ≡ Ok (record { context = record { channels = 1; length = 1; rate = 1; quantum = 128 }; calls = record { ordinal = 1; holder = 0; op = op.CreateConvolver (codes "v") None false } ∷ [] })
unfolding serde_json_on_literals context_in clock_of main_list calls_of head_faults script_faults script_in placed call_faults call_of op_named is_new_name number_in flag_in text_in text_or_null_in
convolver = refl

-- one with a buffer, whose response is not
convolver_with : script_or_fault (read (codes "{\"version\":1,\"context\":{\"channels\":1,\"length\":1,\"rate\":1},\"calls\":[{\"op\":\"createConvolver\",\"disableNormalization\":true,\"buffer\":\"b\",\"as\":\"v\"}]}"))
    ≡ Ok (record { context = record { channels = 1; length = 1; rate = 1; quantum = 128 }; calls = record { ordinal = 1; holder = 0; op = op.CreateConvolver (codes "v") (Some (codes "b")) true } ∷ [] })
unfolding serde_json_on_literals context_in clock_of main_list calls_of head_faults script_faults script_in placed call_faults call_of op_named is_new_name number_in flag_in text_in text_or_null_in
convolver_with = refl

-- null stands for no buffer, and not for a truth value
normalization_is_null : script_or_fault (read (codes "{\"version\":1,\"context\":{\"channels\":1,\"length\":1,\"rate\":1},\"calls\":[{\"op\":\"createConvolver\",\"as\":\"v\",\"buffer\":null,\"disableNormalization\":null}]}")) ≡ Err (WrongKind 1 field.DisableNormalization)
unfolding serde_json_on_literals context_in clock_of main_list calls_of head_faults script_faults placed call_faults op_named is_new_name
normalization_is_null = refl

-- null takes a buffer away, and stands for no buffer that is left out
buffer_taken : script_or_fault (read (codes "{\"version\":1,\"context\":{\"channels\":1,\"length\":1,\"rate\":1},\"calls\":[{\"op\":\"setBuffer\",\"node\":\"s\",\"buffer\":null}]}"))
    ≡ Ok (record { context = record { channels = 1; length = 1; rate = 1; quantum = 128 }; calls = record { ordinal = 1; holder = 0; op = op.SetBuffer (codes "s") None } ∷ [] })
unfolding serde_json_on_literals context_in clock_of main_list calls_of head_faults script_faults script_in placed call_faults call_of op_named number_in text_in text_or_null_in
buffer_taken = refl

no_buffer : script_or_fault (read (codes "{\"version\":1,\"context\":{\"channels\":1,\"length\":1,\"rate\":1},\"calls\":[{\"op\":\"setBuffer\",\"node\":\"s\"}]}")) ≡ Err (MissingField 1 field.Buffer)
unfolding serde_json_on_literals context_in clock_of main_list calls_of head_faults script_faults placed call_faults op_named
no_buffer = refl

-- an item that is no whole number comes before one that is out of range, wherever they stand
list_of_another_kind : script_or_fault (read (codes "{\"version\":1,\"context\":{\"channels\":1,\"length\":1,\"rate\":1},\"calls\":[{\"op\":\"copyToChannel\",\"buffer\":\"b\",\"channel\":0,\"samples\":[2147483648,\"a\"]}]}")) ≡ Err (WrongKind 1 field.Samples)
unfolding serde_json_on_literals context_in clock_of main_list calls_of head_faults script_faults placed call_faults op_named
list_of_another_kind = refl

samples_copied : script_or_fault (read (codes "{\"version\":1,\"context\":{\"channels\":1,\"length\":1,\"rate\":1},\"calls\":[{\"op\":\"copyToChannel\",\"buffer\":\"b\",\"channel\":0,\"samples\":[1,-2]}]}"))
    ≡ Ok (record { context = record { channels = 1; length = 1; rate = 1; quantum = 128 }; calls = record { ordinal = 1; holder = 0; op = op.CopyToChannel (codes "b") 0 (pos 1 ∷ neg_ℤ (pos 2) ∷ []) 0 } ∷ [] })
unfolding serde_json_on_literals context_in clock_of main_list calls_of head_faults script_faults script_in placed call_faults call_of op_named number_in fixes_of text_in
samples_copied = refl

path_is_empty : script_or_fault (read (codes "{\"version\":1,\"context\":{\"channels\":1,\"length\":1,\"rate\":1},\"calls\":[{\"op\":\"decodeAudioData\",\"as\":\"b\",\"path\":\"\"}]}")) ≡ Err (OutOfRange 1 field.Path)
unfolding serde_json_on_literals context_in clock_of main_list calls_of head_faults script_faults placed call_faults op_named is_new_name
path_is_empty = refl

-- the value of a ramp stands before its time
ramped : script_or_fault (read (codes "{\"version\":1,\"context\":{\"channels\":1,\"length\":1,\"rate\":1},\"calls\":[{\"op\":\"linearRampToValueAtTime\",\"node\":\"g\",\"param\":\"gain\",\"value\":-3,\"time\":128}]}"))
    ≡ Ok (record { context = record { channels = 1; length = 1; rate = 1; quantum = 128 }; calls = record { ordinal = 1; holder = 0; op = op.LinearRampToValueAtTime (codes "g") (codes "gain") (neg_ℤ (pos 3)) (pos 128) } ∷ [] })
unfolding serde_json_on_literals context_in clock_of main_list calls_of head_faults script_faults script_in placed call_faults call_of op_named number_in text_in
ramped = refl

value_before_time : script_or_fault (read (codes "{\"version\":1,\"context\":{\"channels\":1,\"length\":1,\"rate\":1},\"calls\":[{\"op\":\"linearRampToValueAtTime\",\"node\":\"g\",\"param\":\"gain\",\"time\":0.5}]}")) ≡ Err (MissingField 1 field.Value)
unfolding serde_json_on_literals context_in clock_of main_list calls_of head_faults script_faults placed call_faults op_named
value_before_time = refl

curved : script_or_fault (read (codes "{\"version\":1,\"context\":{\"channels\":1,\"length\":1,\"rate\":1},\"calls\":[{\"op\":\"setValueCurveAtTime\",\"node\":\"g\",\"param\":\"gain\",\"values\":[0,5],\"time\":1,\"duration\":2}]}"))
    ≡ Ok (record { context = record { channels = 1; length = 1; rate = 1; quantum = 128 }; calls = record { ordinal = 1; holder = 0; op = op.SetValueCurveAtTime (codes "g") (codes "gain") (pos 0 ∷ pos 5 ∷ []) (pos 1) (pos 2) } ∷ [] })
unfolding serde_json_on_literals context_in clock_of main_list calls_of head_faults script_faults script_in placed call_faults call_of op_named number_in fixes_of text_in
curved = refl

-- the words of an automation rate
rate_set : script_or_fault (read (codes "{\"version\":1,\"context\":{\"channels\":1,\"length\":1,\"rate\":1},\"calls\":[{\"op\":\"setAutomationRate\",\"node\":\"g\",\"param\":\"gain\",\"value\":\"k-rate\"}]}"))
    ≡ Ok (record { context = record { channels = 1; length = 1; rate = 1; quantum = 128 }; calls = record { ordinal = 1; holder = 0; op = op.SetAutomationRate (codes "g") (codes "gain") K } ∷ [] })
unfolding serde_json_on_literals context_in clock_of main_list calls_of head_faults script_faults script_in placed call_faults call_of op_named rate_named number_in text_in rate_in
rate_set = refl

rate_in_capitals : script_or_fault (read (codes "{\"version\":1,\"context\":{\"channels\":1,\"length\":1,\"rate\":1},\"calls\":[{\"op\":\"setAutomationRate\",\"node\":\"g\",\"param\":\"gain\",\"value\":\"K-rate\"}]}")) ≡ Err (OutOfRange 1 field.Value)
unfolding serde_json_on_literals context_in clock_of main_list calls_of head_faults script_faults placed call_faults op_named rate_named
rate_in_capitals = refl

-- any text may name a parameter, and a null stands for all outputs
param_cut : script_or_fault (read (codes "{\"version\":1,\"context\":{\"channels\":1,\"length\":1,\"rate\":1},\"calls\":[{\"op\":\"disconnectParam\",\"from\":\"a\",\"to\":\"b\",\"param\":\"\",\"output\":null}]}"))
    ≡ Ok (record { context = record { channels = 1; length = 1; rate = 1; quantum = 128 }; calls = record { ordinal = 1; holder = 0; op = op.DisconnectParam (codes "a") (codes "b") [] None } ∷ [] })
unfolding serde_json_on_literals context_in clock_of main_list calls_of head_faults script_faults script_in placed call_faults call_of op_named number_in text_in count_or_null_in
param_cut = refl

no_param : script_or_fault (read (codes "{\"version\":1,\"context\":{\"channels\":1,\"length\":1,\"rate\":1},\"calls\":[{\"op\":\"connectParam\",\"from\":\"a\",\"to\":\"b\"}]}")) ≡ Err (MissingField 1 field.Param)
unfolding serde_json_on_literals context_in clock_of main_list calls_of head_faults script_faults placed call_faults op_named
no_param = refl

-- a shaper without a curve, which does not oversample
shaper : script_or_fault (read (codes "{\"version\":1,\"context\":{\"channels\":1,\"length\":1,\"rate\":1},\"calls\":[{\"op\":\"createWaveShaper\",\"as\":\"w\"}]}"))
    ≡ Ok (record { context = record { channels = 1; length = 1; rate = 1; quantum = 128 }; calls = record { ordinal = 1; holder = 0; op = op.CreateWaveShaper (codes "w") None Off } ∷ [] })
unfolding serde_json_on_literals context_in clock_of main_list calls_of head_faults script_faults script_in placed call_faults call_of op_named is_new_name oversample_named number_in text_in fixes_or_null_in oversample_in
shaper = refl

shaper_curve : script_or_fault (read (codes "{\"version\":1,\"context\":{\"channels\":1,\"length\":1,\"rate\":1},\"calls\":[{\"op\":\"createWaveShaper\",\"as\":\"w\",\"curve\":[0,5],\"oversample\":\"2x\"}]}"))
    ≡ Ok (record { context = record { channels = 1; length = 1; rate = 1; quantum = 128 }; calls = record { ordinal = 1; holder = 0; op = op.CreateWaveShaper (codes "w") (Some (pos 0 ∷ pos 5 ∷ [])) Two } ∷ [] })
unfolding serde_json_on_literals context_in clock_of main_list calls_of head_faults script_faults script_in placed call_faults call_of op_named is_new_name oversample_named number_in text_in fixes_of fixes_or_null_in oversample_in
shaper_curve = refl

-- null takes a curve away, and stands for no curve that is left out
curve_taken : script_or_fault (read (codes "{\"version\":1,\"context\":{\"channels\":1,\"length\":1,\"rate\":1},\"calls\":[{\"op\":\"setCurve\",\"node\":\"w\",\"curve\":null}]}"))
    ≡ Ok (record { context = record { channels = 1; length = 1; rate = 1; quantum = 128 }; calls = record { ordinal = 1; holder = 0; op = op.SetCurve (codes "w") None } ∷ [] })
unfolding serde_json_on_literals context_in clock_of main_list calls_of head_faults script_faults script_in placed call_faults call_of op_named number_in text_in fixes_or_null_in
curve_taken = refl

no_curve : script_or_fault (read (codes "{\"version\":1,\"context\":{\"channels\":1,\"length\":1,\"rate\":1},\"calls\":[{\"op\":\"setCurve\",\"node\":\"w\"}]}")) ≡ Err (MissingField 1 field.Curve)
unfolding serde_json_on_literals context_in clock_of main_list calls_of head_faults script_faults placed call_faults op_named
no_curve = refl

curve_out_of_range : script_or_fault (read (codes "{\"version\":1,\"context\":{\"channels\":1,\"length\":1,\"rate\":1},\"calls\":[{\"op\":\"setCurve\",\"node\":\"w\",\"curve\":[0,2147483648]}]}")) ≡ Err (OutOfRange 1 field.Curve)
unfolding serde_json_on_literals context_in clock_of main_list calls_of head_faults script_faults placed call_faults op_named
curve_out_of_range = refl

-- the words of an oversampling
oversample_set : script_or_fault (read (codes "{\"version\":1,\"context\":{\"channels\":1,\"length\":1,\"rate\":1},\"calls\":[{\"op\":\"setOversample\",\"node\":\"w\",\"value\":\"4x\"}]}"))
    ≡ Ok (record { context = record { channels = 1; length = 1; rate = 1; quantum = 128 }; calls = record { ordinal = 1; holder = 0; op = op.SetOversample (codes "w") Four } ∷ [] })
unfolding serde_json_on_literals context_in clock_of main_list calls_of head_faults script_faults script_in placed call_faults call_of op_named oversample_named number_in text_in oversample_in
oversample_set = refl

oversample_in_capitals : script_or_fault (read (codes "{\"version\":1,\"context\":{\"channels\":1,\"length\":1,\"rate\":1},\"calls\":[{\"op\":\"setOversample\",\"node\":\"w\",\"value\":\"4X\"}]}")) ≡ Err (OutOfRange 1 field.Value)
unfolding serde_json_on_literals context_in clock_of main_list calls_of head_faults script_faults placed call_faults op_named oversample_named
oversample_in_capitals = refl

oversample_is_null : script_or_fault (read (codes "{\"version\":1,\"context\":{\"channels\":1,\"length\":1,\"rate\":1},\"calls\":[{\"op\":\"createWaveShaper\",\"as\":\"w\",\"oversample\":null}]}")) ≡ Err (WrongKind 1 field.Oversample)
unfolding serde_json_on_literals context_in clock_of main_list calls_of head_faults script_faults placed call_faults op_named is_new_name oversample_named
oversample_is_null = refl

-- a filter's coefficients, whatever order a call has them in
filtered : script_or_fault (read (codes "{\"version\":1,\"context\":{\"channels\":1,\"length\":1,\"rate\":1},\"calls\":[{\"op\":\"createIIRFilter\",\"as\":\"f\",\"feedback\":[-1,8],\"feedforward\":[5]}]}"))
    ≡ Ok (record { context = record { channels = 1; length = 1; rate = 1; quantum = 128 }; calls = record { ordinal = 1; holder = 0; op = op.Create (codes "f") (node.Causal (Filter (pos 5 ∷ []) (neg_ℤ (pos 1) ∷ pos 8 ∷ []))) } ∷ [] })
unfolding serde_json_on_literals context_in clock_of main_list calls_of head_faults script_faults script_in placed call_faults call_of op_named is_new_name number_in text_in fixes_of
filtered = refl

feedforward_first : script_or_fault (read (codes "{\"version\":1,\"context\":{\"channels\":1,\"length\":1,\"rate\":1},\"calls\":[{\"op\":\"createIIRFilter\",\"as\":\"f\",\"feedback\":7}]}")) ≡ Err (MissingField 1 field.Feedforward)
unfolding serde_json_on_literals context_in clock_of main_list calls_of head_faults script_faults placed call_faults op_named is_new_name
feedforward_first = refl

-- a delay of at most one second that begins at none
delayed : script_or_fault (read (codes "{\"version\":1,\"context\":{\"channels\":1,\"length\":1,\"rate\":1},\"calls\":[{\"op\":\"createDelay\",\"as\":\"d\"}]}"))
    ≡ Ok (record { context = record { channels = 1; length = 1; rate = 1; quantum = 128 }; calls = record { ordinal = 1; holder = 0; op = op.CreateDelay (codes "d") (pos 16777216) (pos 0) } ∷ [] })
unfolding serde_json_on_literals context_in clock_of main_list calls_of head_faults script_faults script_in placed call_faults call_of op_named is_new_name number_in text_in
delayed = refl

delayed_by : script_or_fault (read (codes "{\"version\":1,\"context\":{\"channels\":1,\"length\":1,\"rate\":1},\"calls\":[{\"op\":\"createDelay\",\"as\":\"d\",\"delayTime\":-5,\"maxDelayTime\":0}]}"))
    ≡ Ok (record { context = record { channels = 1; length = 1; rate = 1; quantum = 128 }; calls = record { ordinal = 1; holder = 0; op = op.CreateDelay (codes "d") (pos 0) (neg_ℤ (pos 5)) } ∷ [] })
unfolding serde_json_on_literals context_in clock_of main_list calls_of head_faults script_faults script_in placed call_faults call_of op_named is_new_name number_in text_in
delayed_by = refl

longest_first : script_or_fault (read (codes "{\"version\":1,\"context\":{\"channels\":1,\"length\":1,\"rate\":1},\"calls\":[{\"op\":\"createDelay\",\"as\":\"d\",\"delayTime\":null,\"maxDelayTime\":2147483648}]}")) ≡ Err (OutOfRange 1 field.MaxDelayTime)
unfolding serde_json_on_literals context_in clock_of main_list calls_of head_faults script_faults placed call_faults op_named is_new_name
longest_first = refl

-- version 2: half a second at 48,000 frames a second, and the default of what is absent
in_seconds : script_or_fault (read (codes "{\"version\":2,\"context\":{\"channels\":1,\"length\":128,\"rate\":48000},\"calls\":[{\"op\":\"start\",\"node\":\"c\",\"when\":\"0.5\"}]}"))
    ≡ Ok (record { context = record { channels = 1; length = 128; rate = 48000; quantum = 128 }; calls = record { ordinal = 1; holder = 0; op = op.Start (codes "c") (pos 24000) (pos 0) None } ∷ [] })
unfolding serde_json_on_literals context_in clock_of main_list calls_of head_faults script_faults script_in placed call_faults call_of op_named number_in text_in time_or_null_in frames_of_seconds
in_seconds = refl

-- a number is no time there, as a text is none in version 1
number_in_version_2 : script_or_fault (read (codes "{\"version\":2,\"context\":{\"channels\":1,\"length\":128,\"rate\":48000},\"calls\":[{\"op\":\"suspend\",\"time\":1}]}")) ≡ Err (WrongKind 1 field.Time)
unfolding serde_json_on_literals context_in clock_of main_list calls_of head_faults script_faults placed call_faults op_named number_in frames_of_seconds
number_in_version_2 = refl

text_in_version_1 : script_or_fault (read (codes "{\"version\":1,\"context\":{\"channels\":1,\"length\":128,\"rate\":48000},\"calls\":[{\"op\":\"suspend\",\"time\":\"1\"}]}")) ≡ Err (WrongKind 1 field.Time)
unfolding serde_json_on_literals context_in clock_of main_list calls_of head_faults script_faults placed call_faults op_named number_in frames_of_seconds
text_in_version_1 = refl

-- there is no version 3
version_3 : script_or_fault (read (codes "{\"version\":3,\"context\":{\"channels\":1,\"length\":128,\"rate\":48000},\"calls\":[]}")) ≡ Err (OutOfRange 0 field.Version)
unfolding serde_json_on_literals context_in clock_of main_list calls_of head_faults script_faults placed
version_3 = refl

-- a processor, and the size of the context's quantum
processor : script_or_fault (read (codes "{\"version\":2,\"context\":{\"channels\":1,\"length\":128,\"rate\":48000,\"renderQuantum\":32},\"calls\":[{\"op\":\"createProcessor\",\"as\":\"p\",\"code\":[\"in\",\"push -05\",\"add\"]}]}"))
    ≡ Ok (record { context = record { channels = 1; length = 128; rate = 48000; quantum = 32 }; calls = record { ordinal = 1; holder = 0; op = op.CreateProcessor (codes "p") (Input ∷ Push (neg_ℤ (pos 5)) ∷ Add ∷ []) } ∷ [] })
unfolding serde_json_on_literals context_in clock_of main_list calls_of head_faults script_faults script_in placed call_faults call_of op_named is_new_name number_in text_in code_of instr_of plain_instr_of
processor = refl
