-- Each operation's call is read as the operation.
use Rattle.std.proofs.Common.{◌≡◌, ◌≤◌, ℕ, ℤ, pos, List, [], false, Option, Some, None, refl, ap}
use Rattle.std.specs.Prelude.{option_map, option_and_then, unwrap_or, if◌then◌else◌}
use Rattle.serde_json.specs.Data.{string, Items, no_items, item, no_members}
use Rattle.serde_json.specs.Find.{as_array, as_str}
use Rattle.wa_base.specs.GraphNames.{mode_word, interp_word, rate_word}
use Rattle.wa_base.specs.declared.graph_names.Mode.{Mode}
use Rattle.wa_base.specs.declared.graph_names.Mode.TheVariants.{Max, ClampedMax, Explicit}
use Rattle.wa_base.specs.declared.graph_names.Interp.{Interp}
use Rattle.wa_base.specs.declared.graph_names.Interp.TheVariants.{Speakers, Discrete}
use Rattle.wa_base.specs.declared.graph_names.Rate.{Rate}
use Rattle.wa_base.specs.declared.graph_names.Rate.TheVariants.{A, K}
use Rattle.script_ast.specs.Entries.{op_named, left_out_word}
use Rattle.script_ast.specs.Operations.{IsInRange}
use Rattle.script_ast.specs.Ranges.{AreFixesIfSome, IsDisconnectForm}
use Rattle.script_ast.specs.Words.{mode_named, interp_named, rate_named, oversample_named, oversample_word}
use Rattle.script_ast.specs.declared.clocks.Clock.TheVariants.{Seconds}
use Rattle.script_ast.specs.declared.entries.Fallback.TheVariants.{Needed, Number, Count, Flag, Oversample as OversampleFallback}
use Rattle.script_ast.specs.declared.entries.OpName.TheVariants as named
use Rattle.script_ast.specs.declared.fields.Field.TheVariants as field
use Rattle.script_ast.specs.declared.left_out.LeftOutName.{LeftOutName}
use Rattle.script_ast.specs.declared.left_out.LeftOutName.TheVariants as left_out
use Rattle.script_ast.specs.declared.operations.Op.{Op}
use Rattle.script_ast.specs.declared.operations.Op.TheVariants as op
use Rattle.script_ast.specs.declared.operations.Oversample.{Oversample}
use Rattle.script_ast.specs.declared.operations.Oversample.TheVariants.{Off, Two, Four}
use Rattle.script_ast.specs.declared.param_ops.ParamOpName.TheVariants as param
use Rattle.script_fields.specs.Fields.{number_in, time_or_null_in, count_or_null_in, flag_in, fixes_of, fixes_or_null_in, text_in, text_or_null_in, mode_in, interp_in, rate_in, oversample_in}
use Rattle.script_json.specs.Calls.{placed, then_calls, has_then, form_faults}
use Rattle.script_text.specs.Members.{or_null, fixes}
use Rattle.script_text.specs.Text.{with_fields, op_field, call_data}
use Rattle.script_text.proofs.Law.Back.{IsReadBack}
use Rattle.script_text.proofs.Law.Creations.{read_creation}
use Rattle.script_text.proofs.Law.Instrs.{code_back}
use Rattle.script_text.proofs.Law.Values.{fix_fine, time_fine, time_or_null_fine, count_fine, count_or_null_fine, name_fine, name_null_fine, name_or_null_fine, new_name_fine, path_fine, flag_fine, mode_fine, interp_fine, rate_fine, oversample_fine, fixes_fine, fixes_null_fine, fixes_or_null_fine, code_member_fine, fix_value, time_value, time_or_null_value, count_value, count_or_null_value, fixes_value}

-- ---- values

text_or_null_value : (o : Option (List ℕ)) → option_and_then as_str (Some (or_null string o)) ≡ o
text_or_null_value None = refl
text_or_null_value (Some s) = refl

fixes_or_null_value : (o : Option (List ℤ)) → AreFixesIfSome o → option_map fixes_of (option_and_then as_array (Some (or_null fixes o))) ≡ o
fixes_or_null_value None h = refl
fixes_or_null_value (Some zs) h = λ t. Some (fixes_value zs h t)

mode_value : (m : Mode) → unwrap_or (option_and_then mode_named (Some (mode_word m))) Max ≡ m
unfolding mode_named
mode_value Max = refl
mode_value ClampedMax = refl
mode_value Explicit = refl

interp_value : (m : Interp) → unwrap_or (option_and_then interp_named (Some (interp_word m))) Speakers ≡ m
unfolding interp_named
interp_value Speakers = refl
interp_value Discrete = refl

rate_value : (m : Rate) → unwrap_or (option_and_then rate_named (Some (rate_word m))) A ≡ m
unfolding rate_named
rate_value A = refl
rate_value K = refl

oversample_value : (other o : Oversample) → unwrap_or (option_and_then oversample_named (Some (oversample_word o))) other ≡ o
unfolding oversample_named
oversample_value other Off = refl
oversample_value other Two = refl
oversample_value other Four = refl

form_fine : (rate n : ℕ) (held : Items) (from : List ℕ) (output : Option ℕ) (to : Option (List ℕ)) (input : Option ℕ) → IsDisconnectForm output to input
    → form_faults n (call_data rate held (op.Disconnect from output to input)) ≡ []
form_fine rate n held from output to None h = refl
form_fine rate n held from None to (Some input) h = cc (h.0)
form_fine rate n held from (Some output) None (Some input) h = cc (h.1)
form_fine rate n held from (Some output) (Some to) (Some input) h = refl

-- ---- operations

left_out_named : (name : LeftOutName) → op_named (left_out_word name) ≡ Some (named.LeftOut name)
unfolding op_named
left_out_named left_out.CreateOscillator = refl
left_out_named left_out.CreatePeriodicWave = refl
left_out_named left_out.CreateBiquadFilter = refl
left_out_named left_out.CreateStereoPanner = refl
left_out_named left_out.CreatePanner = refl
left_out_named left_out.CreateDynamicsCompressor = refl
left_out_named left_out.CreateAnalyser = refl
left_out_named left_out.SetListener = refl
left_out_named left_out.CreateMediaElementSource = refl
left_out_named left_out.CreateMediaStreamSource = refl
left_out_named left_out.CreateMediaStreamTrackSource = refl
left_out_named left_out.CreateMediaStreamDestination = refl
left_out_named left_out.CreateScriptProcessor = refl
left_out_named left_out.CreateAudioWorkletNode = refl

module _ (rate : ℕ) (low : 8000 ≤ rate) (high : rate ≤ 96000) (n : ℕ) where
  -- the call of an operation in its range is read as the operation
  pub read_op : (held : Items) (o : Op) → IsInRange o → IsReadBack rate n held o
  unfolding op_named placed number_in time_or_null_in count_or_null_in flag_in fixes_or_null_in text_in text_or_null_in mode_in interp_in rate_in oversample_in
  read_op held (op.Create name kind) h = read_creation rate n held name kind h
  read_op held (op.CreateDelay name longest delayed) h = record { name = named.CreateDelay; is_named = refl; joint = refl; fine = (new_name_fine (Seconds rate) n name h.0, (fix_fine (Seconds rate) n field.MaxDelayTime (Number (pos 16777216)) longest h.1, (fix_fine (Seconds rate) n field.DelayTime (Number (pos 0)) delayed h.2, tt))); means = λ t. op.CreateDelay name (fix_value longest h.1 t) (fix_value delayed h.2 t); holds = refl }
  read_op held (op.CreateWaveShaper name curve oversample) h = record { name = named.CreateWaveShaper; is_named = refl; joint = refl; fine = (new_name_fine (Seconds rate) n name h.0, (fixes_null_fine (Seconds rate) n field.Curve curve h.1, (oversample_fine (Seconds rate) n field.Oversample (OversampleFallback Off) oversample, tt))); means = λ t. op.CreateWaveShaper name (fixes_or_null_value curve h.1 t) (oversample_value Off oversample t); holds = refl }
  read_op held (op.CreateConvolver name buffer plain) h = record { name = named.CreateConvolver; is_named = refl; joint = refl; fine = (new_name_fine (Seconds rate) n name h.0, (name_null_fine (Seconds rate) n field.Buffer buffer, (flag_fine (Seconds rate) n field.DisableNormalization (Flag false) plain, tt))); means = λ t. op.CreateConvolver name (text_or_null_value buffer t) plain; holds = refl }
  read_op held (op.CreateProcessor name program) h = record { name = named.CreateProcessor; is_named = refl; joint = refl; fine = (new_name_fine (Seconds rate) n name h.0, (code_member_fine (Seconds rate) n field.Code program h.1, tt)); means = λ t. op.CreateProcessor name (code_back program h.1 t); holds = refl }
  read_op held (op.CreateBufferSource name buffer looping from to rate_of) h = record { name = named.CreateBufferSource; is_named = refl; joint = refl; fine = (new_name_fine (Seconds rate) n name h.0, (name_null_fine (Seconds rate) n field.Buffer buffer, (flag_fine (Seconds rate) n field.Loop (Flag false) looping, (time_fine rate n field.LoopStart (Number (pos 0)) from low high h.1, (time_fine rate n field.LoopEnd (Number (pos 0)) to low high h.2, (fix_fine (Seconds rate) n field.PlaybackRate (Number (pos 16777216)) rate_of h.3, tt)))))); means = λ t. op.CreateBufferSource name (text_or_null_value buffer t) looping (time_value rate from low high h.1 t) (time_value rate to low high h.2 t) (fix_value rate_of h.3 t); holds = refl }
  read_op held (op.CreateBuffer name channels frames buffer_rate) h = record { name = named.CreateBuffer; is_named = refl; joint = refl; fine = (new_name_fine (Seconds rate) n name h.0, (count_fine (Seconds rate) n field.Channels Needed channels h.1, (count_fine (Seconds rate) n field.Length Needed frames h.2, (count_fine (Seconds rate) n field.Rate Needed buffer_rate h.3, tt)))); means = λ t. op.CreateBuffer name (count_value channels h.1 t) (count_value frames h.2 t) (count_value buffer_rate h.3 t); holds = refl }
  read_op held (op.Connect from output to input) h = record { name = named.Connect; is_named = refl; joint = refl; fine = (name_fine (Seconds rate) n field.From Needed from, (count_fine (Seconds rate) n field.Output (Count 0) output h.0, (name_fine (Seconds rate) n field.To Needed to, (count_fine (Seconds rate) n field.Input (Count 0) input h.1, tt)))); means = λ t. op.Connect from (count_value output h.0 t) to (count_value input h.1 t); holds = refl }
  read_op held (op.ConnectParam from output to parameter) h = record { name = named.ConnectParam; is_named = refl; joint = refl; fine = (name_fine (Seconds rate) n field.From Needed from, (count_fine (Seconds rate) n field.Output (Count 0) output h.0, (name_fine (Seconds rate) n field.To Needed to, (name_fine (Seconds rate) n field.Param Needed parameter, tt)))); means = λ t. op.ConnectParam from (count_value output h.0 t) to parameter; holds = refl }
  read_op held (op.Disconnect from output to input) h = record { name = named.Disconnect; is_named = refl; joint = (form_fine rate n held from output to input h.2); fine = (name_fine (Seconds rate) n field.From Needed from, (count_or_null_fine (Seconds rate) n field.Output output h.0, (name_null_fine (Seconds rate) n field.To to, (count_or_null_fine (Seconds rate) n field.Input input h.1, tt)))); means = λ t. op.Disconnect from (count_or_null_value output h.0 t) (text_or_null_value to t) (count_or_null_value input h.1 t); holds = refl }
  read_op held (op.DisconnectParam from to parameter output) h = record { name = named.DisconnectParam; is_named = refl; joint = refl; fine = (name_fine (Seconds rate) n field.From Needed from, (name_fine (Seconds rate) n field.To Needed to, (name_fine (Seconds rate) n field.Param Needed parameter, (count_or_null_fine (Seconds rate) n field.Output output h.0, tt)))); means = λ t. op.DisconnectParam from to parameter (count_or_null_value output h.0 t); holds = refl }
  read_op held (op.SetChannelCount node value) h = record { name = named.SetChannelCount; is_named = refl; joint = refl; fine = (name_fine (Seconds rate) n field.Node Needed node, (count_fine (Seconds rate) n field.Value Needed value h.0, tt)); means = λ t. op.SetChannelCount node (count_value value h.0 t); holds = refl }
  read_op held (op.SetChannelCountMode node value) h = record { name = named.SetChannelCountMode; is_named = refl; joint = refl; fine = (name_fine (Seconds rate) n field.Node Needed node, (mode_fine (Seconds rate) n field.Value value, tt)); means = λ t. op.SetChannelCountMode node (mode_value value t); holds = refl }
  read_op held (op.SetChannelInterpretation node value) h = record { name = named.SetChannelInterpretation; is_named = refl; joint = refl; fine = (name_fine (Seconds rate) n field.Node Needed node, (interp_fine (Seconds rate) n field.Value value, tt)); means = λ t. op.SetChannelInterpretation node (interp_value value t); holds = refl }
  read_op held (op.SetCurve node curve) h = record { name = named.SetCurve; is_named = refl; joint = refl; fine = (name_fine (Seconds rate) n field.Node Needed node, (fixes_or_null_fine (Seconds rate) n field.Curve curve h.0, tt)); means = λ t. op.SetCurve node (fixes_or_null_value curve h.0 t); holds = refl }
  read_op held (op.SetOversample node value) h = record { name = named.SetOversample; is_named = refl; joint = refl; fine = (name_fine (Seconds rate) n field.Node Needed node, (oversample_fine (Seconds rate) n field.Value Needed value, tt)); means = λ t. op.SetOversample node (oversample_value Off value t); holds = refl }
  read_op held (op.SetBuffer node buffer) h = record { name = named.SetBuffer; is_named = refl; joint = refl; fine = (name_fine (Seconds rate) n field.Node Needed node, (name_or_null_fine (Seconds rate) n field.Buffer buffer, tt)); means = λ t. op.SetBuffer node (text_or_null_value buffer t); holds = refl }
  read_op held (op.SetLoop node value) h = record { name = named.SetLoop; is_named = refl; joint = refl; fine = (name_fine (Seconds rate) n field.Node Needed node, (flag_fine (Seconds rate) n field.Value Needed value, tt)); means = refl; holds = refl }
  read_op held (op.SetLoopStart node value) h = record { name = named.SetLoopStart; is_named = refl; joint = refl; fine = (name_fine (Seconds rate) n field.Node Needed node, (time_fine rate n field.Value Needed value low high h.0, tt)); means = λ t. op.SetLoopStart node (time_value rate value low high h.0 t); holds = refl }
  read_op held (op.SetLoopEnd node value) h = record { name = named.SetLoopEnd; is_named = refl; joint = refl; fine = (name_fine (Seconds rate) n field.Node Needed node, (time_fine rate n field.Value Needed value low high h.0, tt)); means = λ t. op.SetLoopEnd node (time_value rate value low high h.0 t); holds = refl }
  read_op held (op.CopyToChannel buffer channel samples at_frame) h = record { name = named.CopyToChannel; is_named = refl; joint = refl; fine = (name_fine (Seconds rate) n field.Buffer Needed buffer, (count_fine (Seconds rate) n field.Channel Needed channel h.0, (fixes_fine (Seconds rate) n field.Samples Needed samples h.1, (count_fine (Seconds rate) n field.At (Count 0) at_frame h.2, tt)))); means = λ t. op.CopyToChannel buffer (count_value channel h.0 t) (fixes_value samples h.1 t) (count_value at_frame h.2 t); holds = refl }
  read_op held (op.Start node when offset duration) h = record { name = named.Start; is_named = refl; joint = refl; fine = (name_fine (Seconds rate) n field.Node Needed node, (time_fine rate n field.When (Number (pos 0)) when low high h.0, (time_fine rate n field.Offset (Number (pos 0)) offset low high h.1, (time_or_null_fine rate n field.Duration duration low high h.2, tt)))); means = λ t. op.Start node (time_value rate when low high h.0 t) (time_value rate offset low high h.1 t) (time_or_null_value rate duration low high h.2 t); holds = refl }
  read_op held (op.Stop node when) h = record { name = named.Stop; is_named = refl; joint = refl; fine = (name_fine (Seconds rate) n field.Node Needed node, (time_fine rate n field.When (Number (pos 0)) when low high h.0, tt)); means = λ t. op.Stop node (time_value rate when low high h.0 t); holds = refl }
  read_op held (op.SetValue node parameter value) h = record { name = named.Param param.SetValue; is_named = refl; joint = refl; fine = (name_fine (Seconds rate) n field.Node Needed node, (name_fine (Seconds rate) n field.Param Needed parameter, (fix_fine (Seconds rate) n field.Value Needed value h.0, tt))); means = λ t. op.SetValue node parameter (fix_value value h.0 t); holds = refl }
  read_op held (op.SetValueAtTime node parameter value time) h = record { name = named.Param param.SetValueAtTime; is_named = refl; joint = refl; fine = (name_fine (Seconds rate) n field.Node Needed node, (name_fine (Seconds rate) n field.Param Needed parameter, (fix_fine (Seconds rate) n field.Value Needed value h.0, (time_fine rate n field.Time Needed time low high h.1, tt)))); means = λ t. op.SetValueAtTime node parameter (fix_value value h.0 t) (time_value rate time low high h.1 t); holds = refl }
  read_op held (op.LinearRampToValueAtTime node parameter value time) h = record { name = named.Param param.LinearRampToValueAtTime; is_named = refl; joint = refl; fine = (name_fine (Seconds rate) n field.Node Needed node, (name_fine (Seconds rate) n field.Param Needed parameter, (fix_fine (Seconds rate) n field.Value Needed value h.0, (time_fine rate n field.Time Needed time low high h.1, tt)))); means = λ t. op.LinearRampToValueAtTime node parameter (fix_value value h.0 t) (time_value rate time low high h.1 t); holds = refl }
  read_op held (op.SetValueCurveAtTime node parameter values time duration) h = record { name = named.Param param.SetValueCurveAtTime; is_named = refl; joint = refl; fine = (name_fine (Seconds rate) n field.Node Needed node, (name_fine (Seconds rate) n field.Param Needed parameter, (fixes_fine (Seconds rate) n field.Values Needed values h.0, (time_fine rate n field.Time Needed time low high h.1, (time_fine rate n field.Duration Needed duration low high h.2, tt))))); means = λ t. op.SetValueCurveAtTime node parameter (fixes_value values h.0 t) (time_value rate time low high h.1 t) (time_value rate duration low high h.2 t); holds = refl }
  read_op held (op.CancelScheduledValues node parameter time) h = record { name = named.Param param.CancelScheduledValues; is_named = refl; joint = refl; fine = (name_fine (Seconds rate) n field.Node Needed node, (name_fine (Seconds rate) n field.Param Needed parameter, (time_fine rate n field.Time Needed time low high h.0, tt))); means = λ t. op.CancelScheduledValues node parameter (time_value rate time low high h.0 t); holds = refl }
  read_op held (op.CancelAndHoldAtTime node parameter time) h = record { name = named.Param param.CancelAndHoldAtTime; is_named = refl; joint = refl; fine = (name_fine (Seconds rate) n field.Node Needed node, (name_fine (Seconds rate) n field.Param Needed parameter, (time_fine rate n field.Time Needed time low high h.0, tt))); means = λ t. op.CancelAndHoldAtTime node parameter (time_value rate time low high h.0 t); holds = refl }
  read_op held (op.SetAutomationRate node parameter value) h = record { name = named.Param param.SetAutomationRate; is_named = refl; joint = refl; fine = (name_fine (Seconds rate) n field.Node Needed node, (name_fine (Seconds rate) n field.Param Needed parameter, (rate_fine (Seconds rate) n field.Value value, tt))); means = λ t. op.SetAutomationRate node parameter (rate_value value t); holds = refl }
  read_op held (op.ExponentialRampToValueAtTime node parameter) h = record { name = named.Param param.ExponentialRampToValueAtTime; is_named = refl; joint = refl; fine = (name_fine (Seconds rate) n field.Node Needed node, (name_fine (Seconds rate) n field.Param Needed parameter, tt)); means = refl; holds = refl }
  read_op held (op.SetTargetAtTime node parameter) h = record { name = named.Param param.SetTargetAtTime; is_named = refl; joint = refl; fine = (name_fine (Seconds rate) n field.Node Needed node, (name_fine (Seconds rate) n field.Param Needed parameter, tt)); means = refl; holds = refl }
  read_op held (op.ReadValue node parameter) h = record { name = named.Param param.ReadValue; is_named = refl; joint = refl; fine = (name_fine (Seconds rate) n field.Node Needed node, (name_fine (Seconds rate) n field.Param Needed parameter, tt)); means = refl; holds = refl }
  read_op no_items (op.Suspend time) h = record { name = named.Suspend; is_named = refl; joint = refl; fine = (time_fine rate n field.Time Needed time low high h, (refl, tt)); means = λ t. op.Suspend (time_value rate time low high h t); holds = refl }
  read_op (item d ds) (op.Suspend time) h = record { name = named.Suspend; is_named = refl; joint = refl; fine = (time_fine rate n field.Time Needed time low high h, (refl, tt)); means = λ t. op.Suspend (time_value rate time low high h t); holds = refl }
  read_op no_items op.StartRendering h = record { name = named.StartRendering; is_named = refl; joint = refl; fine = (refl, tt); means = refl; holds = refl }
  read_op (item d ds) op.StartRendering h = record { name = named.StartRendering; is_named = refl; joint = refl; fine = (refl, tt); means = refl; holds = refl }
  read_op held op.Resume h = record { name = named.Resume; is_named = refl; joint = refl; fine = tt; means = refl; holds = refl }
  read_op held (op.DecodeAudioData name path) h = record { name = named.DecodeAudioData; is_named = refl; joint = refl; fine = (new_name_fine (Seconds rate) n name h.0, (path_fine (Seconds rate) n path h.1, tt)); means = refl; holds = refl }
  read_op held op.ReadState h = record { name = named.ReadState; is_named = refl; joint = refl; fine = tt; means = refl; holds = refl }
  read_op held op.ReadTime h = record { name = named.ReadTime; is_named = refl; joint = refl; fine = tt; means = refl; holds = refl }
  read_op held (op.LeftOut name) h = record {
    name = named.LeftOut name;
    is_named = left_out_named name;
    joint = refl;
    fine = tt;
    means = refl;
    holds = ap (λ b. if b then then_calls (with_fields (op_field (Some (named.LeftOut name))) no_members) n else []) (ap has_then (left_out_named name));
  }
