use Rattle.std.proofs.Common.{sym, ◌∙◌, rules}
use Rattle.json_tree.specs.View.{view}
use Rattle.script_json.proofs.CallSteps.{call_read-no_object, call_read-unknown, call_read-named, outcome_err, outcome_of_none}
use Rattle.script_json.proofs.calls.read_call.Goals as goal

pub returns-then-not-is_object-clause-fault : goal.returns-then-not-is_object-clause-fault
returns-then-not-is_object-clause-fault c = λ _. call_read-no_object _ _ _ _ (search rules)

pub returns-in_default-clause-fault : goal.returns-in_default-clause-fault
returns-in_default-clause-fault c = λ _. call_read-unknown _ _ _ _ (search rules) (search rules)

pub returns-in_err-check_call-clause-fault : goal.returns-in_err-check_call-clause-fault
returns-in_err-check_call-clause-fault c =
    let named = call_read-named _ c.args.ordinal c.args.holder (view c.args.value.now) c.in-Some.name (search rules) (search rules) in
    let bad = outcome_err _ _ _ _ (sym c.check_call.ensures ∙ c.in_err-check_call.was) in
    let first = named ∙ bad in
    search rules

pub returns-clause-ok : goal.returns-clause-ok
returns-clause-ok c =
    let named = call_read-named _ c.args.ordinal c.args.holder (view c.args.value.now) c.in-Some.name (search rules) (search rules) in
    let good = outcome_of_none _ _ _ _ (sym c.check_call.ensures ∙ c.in_ok-check_call.was) in
    rw c.in_ok-op.ensures (named ∙ good)
