use Rattle.std.proofs.Common.{◌≢◌, ◌∙◌, rules, length}
use Rattle.script_fields.specs.declared.faults.ScriptErr.TheVariants.{NoMemory}
use Rattle.script_json.proofs.DepthLaws.{held_less}
use Rattle.script_json.proofs.CallSteps.{call_read-object, list_done, item_fault, item_held_fault, item_done}
use Rattle.script_json.proofs.calls.+add_calls.Goals as goal

pub returns-in_err-call-clause-fault : goal.returns-in_err-call-clause-fault
returns-in_err-call-clause-fault t c =
    let first = λ (named : c.in_err-call.field-0.0 ≢ NoMemory). c.loop-value.invariant
    ∙ item_fault _ _ _ _ _ _ _ _ c.loop-value-test.true c.value-item.is c.in_ok-ordinal.ensures (c.in_err-call.ensures.fault named) in
    search rules

pub returns-in_err-add_calls-clause-fault : goal.returns-in_err-add_calls-clause-fault
returns-in_err-add_calls-clause-fault t c =
    let first = λ (named : c.in_err-add_calls.field-0.0 ≢ NoMemory). c.loop-value.invariant
    ∙ item_held_fault _ _ _ _ _ _ _ _ _ _ c.loop-value-test.true c.value-item.is c.in_ok-ordinal.ensures c.in_ok-call.ensures.ok c.in_ok-push.ensures.ok c.held_list.ensures _ (c.in_err-add_calls.ensures.fault named) in
    search rules

pub loop-value-preserved : goal.loop-value-preserved
loop-value-preserved t c = c.loop-value.invariant
    ∙ item_done _ _ _ _ _ _ _ _ _ _ c.loop-value-test.true c.value-item.is c.in_ok-ordinal.ensures c.in_ok-call.ensures.ok c.in_ok-push.ensures.ok c.held_list.ensures _ c.in_ok-add_calls.ensures.ok

pub returns-clause-ok : goal.returns-clause-ok
returns-clause-ok t c = c.loop-value.invariant ∙ list_done _ _ (length c.loop-value.calls) c.args.holder _ _ c.loop-value-test.false

pub add_calls-requires : goal.add_calls-requires
add_calls-requires t c =
    let less = held_less _ _ _ _ c.args.depth c.loop-value-test.true c.value-item.is c.held_list.ensures (call_read-object _ _ _ c.in_ok-call.ensures.ok) c.requires in
    (search rules, less)
