-- Reading the text of a script gives the script.
use Rattle.std.proofs.Common.{◌≡◌, ◌<◌, ◌≤◌, ◌+◌, ◌==◌, ℕ, List, [], ◌∷◌, inl, inr, Option, Some, refl, ap, ◌∙◌, arith}
use Rattle.std.specs.Prelude.{flat_map, filter_map, option_map}
use Rattle.std.specs.List.{cons_option}
use Rattle.std.proofs.lemmas.Bool.{cases_Bool}
use Rattle.std.proofs.lemmas.Str.{is_utf8-from_IsUtf8}
use Rattle.serde_json.specs.Data.{Items, array}
use Rattle.serde_json.specs.Written.{compact_text}
use Rattle.wa_base.specs.declared.contexts.ContextSpec.{ContextSpec}
use Rattle.script_ast.specs.Entries.{script_head, context_fields, script_tail}
use Rattle.script_ast.specs.Operations.{IsInRange}
use Rattle.script_ast.specs.WellFormed.{AreCallsAfter, IsWellFormed}
use Rattle.script_ast.specs.declared.call_list.Call.{Call}
use Rattle.script_ast.specs.declared.call_list.Script.{Script}
use Rattle.script_ast.specs.declared.clocks.Clock.TheVariants.{Frames, Seconds}
use Rattle.script_ast.specs.declared.entries.Fallback.TheVariants.{Needed, Count}
use Rattle.script_ast.specs.declared.entries.OpName.{OpName}
use Rattle.script_ast.specs.declared.fields.Field.TheVariants as field
use Rattle.script_ast.specs.declared.operations.Op.{Op}
use Rattle.script_fields.specs.Fields.{fields_faults, number_in}
use Rattle.script_fields.specs.Outcome.{outcome}
use Rattle.script_json.specs.Calls.{placed, name_faults, call_faults, call_of, op_in}
use Rattle.script_json.specs.Reading.{placed_at}
use Rattle.script_json.specs.Script.{context_in, context_of, clock_of, main_list, calls_of, head_faults, script_faults, script_in, script_or_fault}
use Rattle.script_json.specs.Tree.{json_of}
use Rattle.script_text.specs.Laws.{ScriptTextLaw}
use Rattle.script_text.specs.Members.{count}
use Rattle.script_text.specs.Text.{call_data, held_calls, context_data, data_of, script_text}
use Rattle.script_text.specs.Textable.{IsTextable}
use Rattle.script_text.proofs.Law.Back.{both_empty, fields_fine, op_fine}
use Rattle.script_text.proofs.Law.Calls.{read_op}
use Rattle.script_text.proofs.Law.Json.{IsKept, AreKeptItems, read_compact, utf8}
use Rattle.script_text.proofs.Law.Kept.{kept_object, count_kept, kept_op}
use Rattle.script_text.proofs.Law.Stacked.{stacked}
use Rattle.script_text.proofs.Law.Tree.{places, placed_calls}
use Rattle.script_text.proofs.Law.Values.{count_fine, count_value}

-- ---- the calls

abbrev call_at : ℕ → ℕ → Op → Call
call_at ordinal holder o = record { ordinal = ordinal; holder = holder; op = o }

module _ (rate : ℕ) (low : 8000 ≤ rate) (high : rate ≤ 96000) where
  one_fine : (n holder : ℕ) (held : Items) (o : Op) → IsInRange o → call_faults (Seconds rate) (placed_at n holder (call_data rate held o)) ≡ []
  unfolding call_faults
  one_fine n holder held o range =
      let is = read_op rate low high n held o range in
      ap (λ (x : Option OpName). name_faults (Seconds rate) n (call_data rate held o) x) is.is_named ∙ op_fine (Seconds rate) n (call_data rate held o) is.name is.joint is.fine

  one_read : (n holder : ℕ) (held : Items) (o : Op) → IsInRange o → call_of (Seconds rate) (placed_at n holder (call_data rate held o)) ≡ Some (call_at n holder o)
  unfolding call_of
  one_read n holder held o range =
      let is = read_op rate low high n held o range in
      ap (λ (x : Option OpName). option_map (λ (name : OpName). call_at n holder (op_in (Seconds rate) name (call_data rate held o))) x) is.is_named
      ∙ (λ t. Some (call_at n holder (is.means t)))

  calls_fine : (n : ℕ) (calls : List Call) → AreCallsAfter n calls → flat_map (call_faults (Seconds rate)) (places rate calls) ≡ []
  calls_fine n [] are = refl
  calls_fine n (call ∷ calls) are =
      both_empty (call_faults (Seconds rate) (placed_at call.ordinal call.holder (call_data rate (held_calls rate call.ordinal calls) call.op))) (flat_map (call_faults (Seconds rate)) (places rate calls))
      (one_fine call.ordinal call.holder (held_calls rate call.ordinal calls) call.op are.0.2) (calls_fine (n + 1) calls are.1)

  calls_read : (n : ℕ) (calls : List Call) → AreCallsAfter n calls → filter_map (call_of (Seconds rate)) (places rate calls) ≡ calls
  calls_read n [] are = refl
  calls_read n (call ∷ calls) are = λ t. cons_option (one_read call.ordinal call.holder (held_calls rate call.ordinal calls) call.op are.0.2 t) (calls_read (n + 1) calls are.1 t)

kept_held : (rate n h : ℕ) (calls : List Call) → AreCallsAfter n calls → AreKeptItems (held_calls rate h calls)
unfolding held_calls
kept_held rate n h [] are = tt
kept_held rate n h (call ∷ calls) are = elim (cases_Bool (call.holder == h)) [
  | inl same ↦ rw same (kept_op rate (held_calls rate call.ordinal calls) call.op are.0.2 (kept_held rate (n + 1) call.ordinal calls are.1), kept_held rate (n + 1) h calls are.1)
  | inr other ↦ rw other (kept_held rate (n + 1) h calls are.1)
]

-- ---- what stands around the calls

context_kept : (context : ContextSpec) → context.channels ≤ 4294967295 → context.length ≤ 4294967295 → context.rate ≤ 4294967295 → context.quantum ≤ 4294967295 → IsKept (context_data context)
context_kept context a b c d =
    kept_object ((field.Channels, count context.channels) ∷ (field.Length, count context.length) ∷ (field.Rate, count context.rate) ∷ (field.RenderQuantum, count context.quantum) ∷ [])
    (count_kept context.channels a, (count_kept context.length b, (count_kept context.rate c, (count_kept context.quantum d, tt))))

script_kept : (script : Script) → IsWellFormed script → IsKept (data_of script)
unfolding data_of
script_kept script is =
    let two : 2 < 18446744073709551616 = omega arith in
    kept_object ((field.Version, count 2) ∷ (field.Context, context_data script.context) ∷ (field.Calls, array (held_calls script.context.rate 0 script.calls)) ∷ [])
    (two, (context_kept script.context is.channels is.frames is.rate is.quantum, (kept_held script.context.rate 0 0 script.calls is.calls, tt)))

context_fine : (context : ContextSpec) → context.channels ≤ 4294967295 → context.length ≤ 4294967295 → context.rate ≤ 4294967295 → context.quantum ≤ 4294967295
    → fields_faults Frames 0 (context_data context) context_fields ≡ []
context_fine context a b c d = fields_fine Frames 0 (context_data context) context_fields (
  count_fine Frames 0 field.Channels Needed context.channels a,
  (
    count_fine Frames 0 field.Length Needed context.length b,
    (count_fine Frames 0 field.Rate Needed context.rate c, (count_fine Frames 0 field.RenderQuantum (Count 128) context.quantum d, tt)),
  ),
)

head_fine : (script : Script) → IsWellFormed script → head_faults (data_of script) ≡ []
unfolding head_faults data_of context_in
head_fine script is =
    both_empty (fields_faults Frames 0 (data_of script) script_head) _ (fields_fine Frames 0 (data_of script) script_head (refl, (refl, tt)))
    (both_empty (fields_faults Frames 0 (context_data script.context) context_fields) _ (context_fine script.context is.channels is.frames is.rate is.quantum)
    (fields_fine Frames 0 (data_of script) script_tail (refl, tt)))

clock_is : (script : Script) → IsWellFormed script → clock_of (data_of script) ≡ Seconds script.context.rate
unfolding clock_of data_of context_in number_in
clock_is script is = λ t. Seconds (count_value script.context.rate is.rate t)

abbrev context_at : ℕ → ℕ → ℕ → ℕ → ContextSpec
context_at channels frames rate quantum = record { channels = channels; length = frames; rate = rate; quantum = quantum }

context_is : (script : Script) → IsWellFormed script → context_of (context_in (data_of script)) ≡ script.context
unfolding data_of context_in number_in
context_is script is = λ t. context_at (count_value script.context.channels is.channels t) (count_value script.context.length is.frames t)
    (count_value script.context.rate is.rate t) (count_value script.context.quantum is.quantum t)

main_is : (script : Script) → main_list (data_of script) ≡ held_calls script.context.rate 0 script.calls
unfolding main_list data_of
main_is script = refl

calls_are : (script : Script) → IsTextable script → calls_of (data_of script) ≡ places script.context.rate script.calls
unfolding calls_of
calls_are script is =
    ap (λ (ds : Items). placed ds 0 0) (main_is script)
    ∙ placed_calls script.context.rate is.rate_low is.rate_high script.calls (stacked script.calls is.well_formed.nested is.well_formed.calls)

-- ---- the script

no_faults : (script : Script) → IsTextable script → script_faults (data_of script) ≡ []
unfolding script_faults
no_faults script is =
    both_empty (head_faults (data_of script)) (flat_map (call_faults (clock_of (data_of script))) (calls_of (data_of script))) (head_fine script is.well_formed)
    ((λ t. flat_map (call_faults (clock_is script is.well_formed t)) (calls_are script is t)) ∙ calls_fine script.context.rate is.rate_low is.rate_high 0 script.calls is.well_formed.calls)

abbrev script_at : ContextSpec → List Call → Script
script_at context calls = record { context = context; calls = calls }

script_is : (script : Script) → IsTextable script → script_in (data_of script) ≡ script
unfolding script_in
script_is script is =
    (λ t. script_at (context_is script is.well_formed t) (filter_map (call_of (clock_is script is.well_formed t)) (calls_are script is t)))
    ∙ (λ t. script_at script.context (calls_read script.context.rate is.rate_low is.rate_high 0 script.calls is.well_formed.calls t))

json_is : (script : Script) → IsTextable script → json_of (script_text script) ≡ Some (data_of script)
unfolding json_of script_text
json_is script is =
    let kept = script_kept script is.well_formed in
    rw (is_utf8-from_IsUtf8 (compact_text (data_of script)) (utf8 (data_of script) kept)) (read_compact (data_of script) kept is.nesting)

-- reading the text of a script gives the script
pub script_text_back : ScriptTextLaw
script_text_back script is = ap script_or_fault (json_is script is) ∙ (λ t. outcome (no_faults script is t) (script_is script is t))
