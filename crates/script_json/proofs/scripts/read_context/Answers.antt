use Rattle.std.proofs.Common.{sym, ◌∙◌, rules}
use Rattle.json_tree.specs.View.{view}
use Rattle.script_json.specs.Script.{context_in, context_of}
use Rattle.script_json.proofs.HeadSteps.{head_no_object, head_first, head_second, head_third, head_none, context_in-there}
use Rattle.script_json.proofs.scripts.read_context.Goals as goal

pub returns-then-not-is_object : goal.returns-then-not-is_object
returns-then-not-is_object c = sym (head_no_object _ _ (search rules))

pub returns-in_err-check_fields : goal.returns-in_err-check_fields
returns-in_err-check_fields c =
    let d = view c.args.value.now in
    let first = head_first d (context_of (context_in d)) _ (search rules) (sym c.check_fields.ensures ∙ c.in_err-check_fields.was) in
    search rules

pub returns-in_err-check_fields-2 : goal.returns-in_err-check_fields-2
returns-in_err-check_fields-2 c =
    let d = view c.args.value.now in
    let first = head_second d (view c.in-Some.context.now) (context_of (context_in d)) _ (search rules) (sym c.check_fields.ensures ∙ c.in_ok-check_fields.was) (search rules)
    _ (sym c.check_fields-2.ensures ∙ c.in_err-check_fields-2.was) in
    search rules

pub returns-in_err-check_fields-3 : goal.returns-in_err-check_fields-3
returns-in_err-check_fields-3 c =
    let d = view c.args.value.now in
    let first = head_third d (view c.in-Some.context.now) (context_of (context_in d)) _ (search rules) (sym c.check_fields.ensures ∙ c.in_ok-check_fields.was) (search rules)
    _ _ (sym c.check_fields-2.ensures ∙ c.in_ok-check_fields-2.was) (sym c.check_fields-3.ensures ∙ c.in_err-check_fields-3.was) in
    search rules

pub returns : goal.returns
returns c =
    let d = view c.args.value.now in
    let none = head_none d (view c.in-Some.context.now) (context_of (view c.in-Some.context.now)) _ (search rules) (sym c.check_fields.ensures ∙ c.in_ok-check_fields.was) (search rules)
    _ _ (sym c.check_fields-2.ensures ∙ c.in_ok-check_fields-2.was) (sym c.check_fields-3.ensures ∙ c.in_ok-check_fields-3.was) in
    rw (context_in-there d (view c.in-Some.context.now) (search rules), c.context_of.ensures) (sym none)
