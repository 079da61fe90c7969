-- The text of a script, as its parts are appended.
use Rattle.std.proofs.Common.{◌≡◌, ℕ, List, [], ◌∷◌, ◌++◌, true, false, append_assoc}
use Rattle.json.specs.Print.{quoted}
use Rattle.serde_json.specs.Written.{comma_if, compact_text, items_text, members_text}
use Rattle.script_ast.specs.Fields.{field_word}
use Rattle.script_ast.specs.declared.call_list.Call.{Call}
use Rattle.script_ast.specs.declared.call_list.Script.{Script}
use Rattle.script_ast.specs.declared.fields.Field.TheVariants as field
use Rattle.script_text.specs.Text.{context_data, data_of, held_calls, script_text}
use Rattle.script_text.specs.Writing.{members_given}
use Rattle.script_text.specs.declared.members.Given.TheVariants as given

regroup : (old first list second context last : List ℕ)
    → ((((((((((old ++ (123 ∷ [])) ++ []) ++ first) ++ (58 ∷ [])) ++ (91 ∷ [])) ++ list) ++ (44 ∷ [])) ++ second) ++ (58 ∷ [])) ++ context) ++ last
    ≡ old ++ (123 ∷ ([] ++ (first ++ (58 ∷ ((91 ∷ list) ++ ((44 ∷ []) ++ (second ++ (58 ∷ (context ++ last)))))))))
regroup old first list second context last = simp append_assoc

pub script_step : (script : Script) (calls : List Call) (old begun first opened listed second context new : List ℕ) → calls ≡ script.calls
    → begun ≡ old ++ (123 ∷ [])
    → first ≡ ((begun ++ comma_if false) ++ quoted (field_word field.Calls)) ++ (58 ∷ [])
    → opened ≡ first ++ (91 ∷ [])
    → listed ≡ opened ++ items_text false (held_calls script.context.rate 0 calls)
    → second ≡ ((listed ++ comma_if true) ++ quoted (field_word field.Context)) ++ (58 ∷ [])
    → context ≡ second ++ compact_text (context_data script.context)
    → new ≡ context ++ members_text true (members_given script.context.rate ((field.Version, given.Count 2) ∷ []))
    → new ≡ old ++ script_text script
unfolding script_text data_of
script_step script calls old begun first opened listed second context new all at_brace at_calls at_bracket at_list at_context at_end at_version =
    rw (at_version, at_end, at_context, at_list, at_bracket, at_calls, at_brace, all)
    (regroup old (quoted (field_word field.Calls)) (items_text false (held_calls script.context.rate 0 script.calls)) (quoted (field_word field.Context))
    (compact_text (context_data script.context)) (members_text true (members_given script.context.rate ((field.Version, given.Count 2) ∷ []))))
