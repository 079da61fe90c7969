-- A script that is read is well-formed.
use Rattle.std.proofs.Common.{◌≡◌, ◌≤◌, ◌+◌, ◌⊎◌, ℕ, suc, List, [], ◌∷◌, ◌++◌, length, refl, sym, ap, ◌∙◌, Ok, Option, Some, None, Bool, true, false, arith}
use Rattle.std.specs.Prelude.{flat_map, filter_map, is_some, option_map, if◌then◌else◌}
use Rattle.std.specs.List.{cons_option}
use Rattle.std.proofs.lemmas.Grind.{flat_map-append}
use Rattle.std.proofs.lemmas.List.Elements.{filter_map-append}
use Rattle.serde_json.specs.Data.{Data, Items}
use Rattle.serde_json.specs.Find.{as_object}
use Rattle.wa_base.specs.declared.contexts.ContextSpec.{ContextSpec}
use Rattle.script_ast.specs.Entries.{has_calls}
use Rattle.script_ast.specs.Holders.{holds_calls, AreNested}
use Rattle.script_ast.specs.Operations.{IsInRange}
use Rattle.script_ast.specs.WellFormed.{IsCallAt, AreCallsAfter, IsWellFormed}
use Rattle.script_ast.specs.declared.call_list.Call.{Call}
use Rattle.script_ast.specs.declared.clocks.Clock.{Clock}
use Rattle.script_ast.specs.Entries.{row, context_fields}
use Rattle.script_ast.specs.declared.entries.Fallback.TheVariants.{Needed}
use Rattle.script_ast.specs.declared.entries.Kind.TheVariants as kind
use Rattle.script_ast.specs.declared.fields.Field.TheVariants as field
use Rattle.script_ast.specs.declared.entries.OpName.{OpName}
use Rattle.script_ast.specs.declared.entries.OpName.TheVariants.{Create, CreateDelay, CreateWaveShaper, CreateConvolver, CreateProcessor, CreateBufferSource, CreateBuffer, Connect, ConnectParam, Disconnect, DisconnectParam, SetChannelCount, SetChannelCountMode, SetChannelInterpretation, SetCurve, SetOversample, SetBuffer, SetLoop, SetLoopStart, SetLoopEnd, CopyToChannel, Start, Stop, Param, Suspend, StartRendering, Resume, DecodeAudioData, ReadState, ReadTime, LeftOut}
use Rattle.script_ast.specs.declared.param_ops.ParamOpName.{ParamOpName}
use Rattle.script_ast.specs.declared.param_ops.ParamOpName.TheVariants as param
use Rattle.script_json.proofs.CallSteps.{both_none, length-calls, outcome_ok}
use Rattle.script_json.proofs.CreationLaws.{is_read}
use Rattle.script_json.proofs.FieldRanges.{fix_in-range, time_in-range, time_or_null_in-range, count_in-range, count_or_null_in-range, text_in-new_name, text_in-path, fixes_in-range, fixes_or_null_in-range, code_in-range}
use Rattle.script_json.proofs.NumberRows.{number_rows}
use Rattle.script_json.proofs.FormLaws.{disconnect_form}
use Rattle.script_json.proofs.PlacedLaws.{placed_all}
use Rattle.script_json.proofs.TextLaws.{HasTexts, HaveTexts, text_in-text, text_or_null_in-text}
use Rattle.script_json.specs.Calls.{Placed, placed, has_then, call_faults, call_of, name_in, name_faults, op_faults, op_in, param_op_in}
use Rattle.script_fields.specs.Fields.{fields_faults}
use Rattle.script_fields.specs.Outcome.{outcome}
use Rattle.script_json.specs.Reading.{placed_at, calls_read}
use Rattle.script_json.specs.Script.{context_in, context_of, head_faults}
use Rattle.script_fields.specs.declared.faults.ScriptErr.TheVariants.{WrongKind}

-- ---- the fields of a call

param_op_in-range : (clock : Clock) (d : Data) → HasTexts d → (name : ParamOpName) → IsInRange (param_op_in clock name d)
param_op_in-range clock d t param.SetValue = (fix_in-range _ _ d, text_in-text _ d t, text_in-text _ d t)
param_op_in-range clock d t param.SetValueAtTime = (fix_in-range _ _ d, time_in-range clock _ _ d, text_in-text _ d t, text_in-text _ d t)
param_op_in-range clock d t param.LinearRampToValueAtTime = (fix_in-range _ _ d, time_in-range clock _ _ d, text_in-text _ d t, text_in-text _ d t)
param_op_in-range clock d t param.SetValueCurveAtTime = (fixes_in-range field.Values d, time_in-range clock _ _ d, time_in-range clock _ _ d, text_in-text _ d t, text_in-text _ d t)
param_op_in-range clock d t param.CancelScheduledValues = (time_in-range clock _ _ d, text_in-text _ d t, text_in-text _ d t)
param_op_in-range clock d t param.CancelAndHoldAtTime = (time_in-range clock _ _ d, text_in-text _ d t, text_in-text _ d t)
param_op_in-range clock d t param.SetAutomationRate = (text_in-text _ d t, text_in-text _ d t)
param_op_in-range clock d t param.ExponentialRampToValueAtTime = (text_in-text _ d t, text_in-text _ d t)
param_op_in-range clock d t param.SetTargetAtTime = (text_in-text _ d t, text_in-text _ d t)
param_op_in-range clock d t param.ReadValue = (text_in-text _ d t, text_in-text _ d t)

pub op_in-range : (clock : Clock) (n : ℕ) (d : Data) → HasTexts d → (name : OpName) → op_faults clock n d name ≡ [] → IsInRange (op_in clock name d)
op_in-range clock n d t (Create name) h =
    let is = is_read name d in
    let none : fields_faults clock n d (row field.As kind.NewName Needed ∷ number_rows name) ≡ [] = ap (fields_faults clock n d) (sym is.entry) ∙ (both_none _ _ h).0 in
    (text_in-new_name clock n d (both_none _ _ none).0, is.creatable, is.range, ap is_some is.makes)
op_in-range clock n d t CreateDelay h = (text_in-new_name clock n d (both_none _ _ (both_none _ _ h).0).0, fix_in-range _ _ d, fix_in-range _ _ d)
op_in-range clock n d t CreateWaveShaper h = (text_in-new_name clock n d (both_none _ _ (both_none _ _ h).0).0, fixes_or_null_in-range _ d)
op_in-range clock n d t CreateConvolver h = (text_in-new_name clock n d (both_none _ _ (both_none _ _ h).0).0, text_or_null_in-text _ d t)
op_in-range clock n d t CreateProcessor h = (text_in-new_name clock n d (both_none _ _ (both_none _ _ h).0).0, code_in-range field.Code d)
op_in-range clock n d t CreateBufferSource h = (text_in-new_name clock n d (both_none _ _ (both_none _ _ h).0).0, time_in-range clock _ _ d, time_in-range clock _ _ d, fix_in-range _ _ d, text_or_null_in-text _ d t)
op_in-range clock n d t CreateBuffer h = (text_in-new_name clock n d (both_none _ _ (both_none _ _ h).0).0, count_in-range _ _ d, count_in-range _ _ d, count_in-range _ _ d)
op_in-range clock n d t Connect h = (count_in-range _ _ d, count_in-range _ _ d, text_in-text _ d t, text_in-text _ d t)
op_in-range clock n d t ConnectParam h = (count_in-range _ _ d, text_in-text _ d t, text_in-text _ d t, text_in-text _ d t)
op_in-range clock n d t Disconnect h =
    let e = both_none _ _ h in
    (count_or_null_in-range _ d, count_or_null_in-range _ d, disconnect_form clock n d e.0 e.1, text_in-text _ d t, text_or_null_in-text _ d t)
op_in-range clock n d t DisconnectParam h = (count_or_null_in-range _ d, text_in-text _ d t, text_in-text _ d t, text_in-text _ d t)
op_in-range clock n d t SetChannelCount h = (count_in-range _ _ d, text_in-text _ d t)
op_in-range clock n d t SetChannelCountMode h = text_in-text _ d t
op_in-range clock n d t SetChannelInterpretation h = text_in-text _ d t
op_in-range clock n d t SetCurve h = (fixes_or_null_in-range _ d, text_in-text _ d t)
op_in-range clock n d t SetOversample h = text_in-text _ d t
op_in-range clock n d t SetBuffer h = (text_in-text _ d t, text_or_null_in-text _ d t)
op_in-range clock n d t SetLoop h = text_in-text _ d t
op_in-range clock n d t SetLoopStart h = (time_in-range clock _ _ d, text_in-text _ d t)
op_in-range clock n d t SetLoopEnd h = (time_in-range clock _ _ d, text_in-text _ d t)
op_in-range clock n d t CopyToChannel h = (count_in-range _ _ d, fixes_in-range field.Samples d, count_in-range _ _ d, text_in-text _ d t)
op_in-range clock n d t Start h = (time_in-range clock _ _ d, time_in-range clock _ _ d, time_or_null_in-range clock _ d, text_in-text _ d t)
op_in-range clock n d t Stop h = (time_in-range clock _ _ d, text_in-text _ d t)
op_in-range clock n d t (Param name) h = param_op_in-range clock d t name
op_in-range clock n d t Suspend h = time_in-range clock _ _ d
op_in-range clock n d t StartRendering h = tt
op_in-range clock n d t Resume h = tt
op_in-range clock n d t DecodeAudioData h =
    let e = both_none _ _ (both_none _ _ h).0 in
    (text_in-new_name clock n d e.0, text_in-path clock n d (both_none _ _ e.1).0, text_in-text _ d t)
op_in-range clock n d t ReadState h = tt
op_in-range clock n d t ReadTime h = tt
op_in-range clock n d t (LeftOut name) h = tt

-- ---- the list that a call holds

-- an operation on a parameter has none
holds_calls-param_op_in : (clock : Clock) (name : ParamOpName) (d : Data) → holds_calls (param_op_in clock name d) ≡ has_calls (Param name)
holds_calls-param_op_in clock param.SetValue d = refl
holds_calls-param_op_in clock param.SetValueAtTime d = refl
holds_calls-param_op_in clock param.LinearRampToValueAtTime d = refl
holds_calls-param_op_in clock param.SetValueCurveAtTime d = refl
holds_calls-param_op_in clock param.CancelScheduledValues d = refl
holds_calls-param_op_in clock param.CancelAndHoldAtTime d = refl
holds_calls-param_op_in clock param.SetAutomationRate d = refl
holds_calls-param_op_in clock param.ExponentialRampToValueAtTime d = refl
holds_calls-param_op_in clock param.SetTargetAtTime d = refl
holds_calls-param_op_in clock param.ReadValue d = refl

-- a call is read as one that has a `then` list where its operation has that field
pub holds_calls-op_in : (clock : Clock) (name : OpName) (d : Data) → holds_calls (op_in clock name d) ≡ has_calls name
holds_calls-op_in clock (Create name) d = sym (is_read name d).alone
holds_calls-op_in clock CreateDelay d = refl
holds_calls-op_in clock CreateWaveShaper d = refl
holds_calls-op_in clock CreateConvolver d = refl
holds_calls-op_in clock CreateProcessor d = refl
holds_calls-op_in clock CreateBufferSource d = refl
holds_calls-op_in clock CreateBuffer d = refl
holds_calls-op_in clock Connect d = refl
holds_calls-op_in clock ConnectParam d = refl
holds_calls-op_in clock Disconnect d = refl
holds_calls-op_in clock DisconnectParam d = refl
holds_calls-op_in clock SetChannelCount d = refl
holds_calls-op_in clock SetChannelCountMode d = refl
holds_calls-op_in clock SetChannelInterpretation d = refl
holds_calls-op_in clock SetCurve d = refl
holds_calls-op_in clock SetOversample d = refl
holds_calls-op_in clock SetBuffer d = refl
holds_calls-op_in clock SetLoop d = refl
holds_calls-op_in clock SetLoopStart d = refl
holds_calls-op_in clock SetLoopEnd d = refl
holds_calls-op_in clock CopyToChannel d = refl
holds_calls-op_in clock Start d = refl
holds_calls-op_in clock Stop d = refl
holds_calls-op_in clock (Param name) d = holds_calls-param_op_in clock name d
holds_calls-op_in clock Suspend d = refl
holds_calls-op_in clock StartRendering d = refl
holds_calls-op_in clock Resume d = refl
holds_calls-op_in clock DecodeAudioData d = refl
holds_calls-op_in clock ReadState d = refl
holds_calls-op_in clock ReadTime d = refl
holds_calls-op_in clock (LeftOut name) d = refl

-- ---- the calls of a script

-- what is said of a call without a fault: what it means is a call with its ordinal, in range
abbrev IsGood : Placed → Option Call → Type 0
IsGood call None = ⊥
IsGood call (Some c) = IsCallAt call.ordinal c

good_named : (clock : Clock) (call : Placed) (o : Option OpName) → HasTexts call.value → call.holder + 1 ≤ call.ordinal → name_faults clock call.ordinal call.value o ≡ []
    → IsGood call (option_map (λ name. record { ordinal = call.ordinal; holder = call.holder; op = op_in clock name call.value }) o)
good_named clock call None texts early h = cc
good_named clock call (Some name) texts early h = (refl, early, op_in-range clock _ _ texts name h)

good_object : (clock : Clock) (call : Placed) (b : Bool) → HasTexts call.value → call.holder + 1 ≤ call.ordinal
    → (if b then name_faults clock call.ordinal call.value (name_in call.value) else WrongKind call.ordinal field.Call ∷ []) ≡ []
    → IsGood call (option_map (λ name. record { ordinal = call.ordinal; holder = call.holder; op = op_in clock name call.value }) (name_in call.value))
good_object clock call true texts early h = good_named clock call (name_in call.value) texts early h
good_object clock call false texts early h = cc

good_call : (clock : Clock) (call : Placed) → HasTexts call.value → call.holder + 1 ≤ call.ordinal → call_faults clock call ≡ [] → IsGood call (call_of clock call)
unfolding call_faults call_of
good_call clock call texts early h = good_object clock call (is_some (as_object call.value)) texts early h

AreCallsAfter-append : (n : ℕ) (xs ys : List Call) → AreCallsAfter n xs → AreCallsAfter (n + length xs) ys → AreCallsAfter n (xs ++ ys)
AreCallsAfter-append n [] ys first second = let e : n + 0 ≡ n = omega arith in rw e at second
AreCallsAfter-append n (x ∷ xs) ys first second =
    let e : n + suc (length xs) ≡ n + 1 + length xs = omega arith in
    (first.0, AreCallsAfter-append (n + 1) xs ys first.1 (rw e at second))

append_at : (n m : ℕ) (xs ys : List Call) → length xs ≡ m → AreCallsAfter n xs → AreCallsAfter (n + m) ys → AreCallsAfter n (xs ++ ys)
append_at n m xs ys e first second = AreCallsAfter-append n xs ys first (rw e second)

after_good : (n : ℕ) (call : Placed) (o : Option Call) (calls : List Call) → call.ordinal ≡ n + 1 → IsGood call o → AreCallsAfter (n + 1) calls
    → AreCallsAfter n (cons_option o calls)
after_good n call None calls place good rest = absurd good
after_good n call (Some c) calls place good rest = (rw place at good, rest)

-- what is said of the calls that are placed after n calls: where none has a fault, they have the ordinals from n + 1 on
abbrev AreGoodAfter : Clock → ℕ → List Placed → Type 0
AreGoodAfter clock n calls = flat_map (call_faults clock) calls ≡ [] → AreCallsAfter n (filter_map (call_of clock) calls)

item_good : (clock : Clock) (d : Data) (n holder : ℕ) (held rest : List Placed) → HasTexts d → holder ≤ n → (held ≡ []) ⊎ (has_then (name_in d) ≡ true) → AreGoodAfter clock (n + 1) held → AreGoodAfter clock (n + 1 + length held) rest
    → AreGoodAfter clock n (placed_at (n + 1) holder d ∷ held ++ rest)
item_good clock d n holder held rest texts early none_or held_good rest_good none =
    let this = both_none (call_faults clock (placed_at (n + 1) holder d)) (flat_map (call_faults clock) (held ++ rest)) none in
    let others = both_none (flat_map (call_faults clock) held) (flat_map (call_faults clock) rest) (rw (flat_map-append (call_faults clock) held rest) at this.1) in
    let count = length-calls clock held others.0 in
    let both = append_at (n + 1) (length held) (filter_map (call_of clock) held) (filter_map (call_of clock) rest) count (held_good others.0) (rest_good others.1) in
    let near : holder + 1 ≤ n + 1 = omega arith in
    after_good n (placed_at (n + 1) holder d) (call_of clock (placed_at (n + 1) holder d)) _ refl (good_call clock (placed_at (n + 1) holder d) texts near this.0)
    (rw (filter_map-append (call_of clock) held rest) both)

placed_good : (clock : Clock) (ds : Items) (n holder : ℕ) → holder ≤ n → HaveTexts ds → AreGoodAfter clock n (placed ds n holder)
placed_good clock ds n holder early texts = placed_all (λ (n holder : ℕ) (calls : List Placed). AreGoodAfter clock n calls) (λ n holder none. tt) (item_good clock) ds n holder early texts

pub read_well_formed : (d : Data) (context : ContextSpec) (clock : Clock) (ds : Items) (calls : List Call) → HaveTexts ds → outcome (head_faults d) (context_of (context_in d)) ≡ Ok context
    → calls_read clock [] (placed ds 0 0) ≡ Ok calls → AreNested calls → IsWellFormed (record { context = context; calls = calls })
unfolding calls_read
read_well_formed d context clock ds calls texts head read nested =
    let e = outcome_ok _ _ _ head in
    let f = outcome_ok _ _ _ read in
    record {
      channels = rw (← e.1) (count_in-range context_fields field.Channels (context_in d));
      frames = rw (← e.1) (count_in-range context_fields field.Length (context_in d));
      rate = rw (← e.1) (count_in-range context_fields field.Rate (context_in d));
      quantum = rw (← e.1) (count_in-range context_fields field.RenderQuantum (context_in d));
      calls = rw (← f.1) (placed_good clock ds 0 0 (omega arith) texts f.0);
      nested = nested;
    }
