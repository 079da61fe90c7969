use Rattle.std.proofs.Common.{sym, ◌∙◌, rules}
use Rattle.json_tree.specs.View.{view}
use Rattle.script_json.proofs.CallSteps.{op_fault, op_joint}
use Rattle.script_json.proofs.calls.check_call.Goals as goal

pub returns-in_err-check_fields : goal.returns-in_err-check_fields
returns-in_err-check_fields c =
    let first = op_fault _ _ (view c.args.call.now) c.args.name _ (sym (rw c.fields.ensures at c.check_fields.ensures) ∙ c.in_err-check_fields.was) in
    search rules

pub returns-in-Disconnect : goal.returns-in-Disconnect
returns-in-Disconnect c =
    let rest = op_joint _ _ (view c.args.call.now) c.args.name _ (sym (rw c.fields.ensures at c.check_fields.ensures) ∙ c.in_ok-check_fields.was) in
    rw c.in-Disconnect.is (c.check_form.ensures ∙ sym (rw c.in-Disconnect.is at rest))
