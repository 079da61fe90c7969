use Rattle.std.proofs.Common.{◌≢◌, sym, ap, ◌∙◌, rules}
use Rattle.json_tree.specs.View.{view}
use Rattle.script_fields.specs.declared.faults.ScriptErr.TheVariants.{NoMemory}
use Rattle.script_json.specs.Script.{clock_at}
use Rattle.script_json.proofs.DepthLaws.{main_less}
use Rattle.script_json.proofs.HeadSteps.{object_of_head, script_head_fault, clock_is, script_calls_fault, script_read}
use Rattle.script_json.proofs.NestedLaws.{read_nested}
use Rattle.script_json.proofs.TextLaws.{view_texts, main_texts_of}
use Rattle.script_json.proofs.WellFormedLaws.{read_well_formed}
use Rattle.script_json.proofs.scripts.read_script.Goals as goal

pub returns-in_err-context-clause-fault : goal.returns-in_err-context-clause-fault
returns-in_err-context-clause-fault c =
    let first = script_head_fault (view c.args.value.now) _ _ (sym c.read_context.ensures ∙ c.in_err-context.was) in
    search rules

pub returns-in_err-add_calls-clause-fault : goal.returns-in_err-add_calls-clause-fault
returns-in_err-add_calls-clause-fault c =
    let d = view c.args.value.now in
    let head = sym c.read_context.ensures ∙ c.in_ok-context.was in
    let clock = clock_is d _ _ head (c.clock_at-clock.ensures ∙ ap (λ version. clock_at version c.in_ok-context.context.rate) c.count.ensures) in
    let first = λ (named : c.in_err-add_calls.field-0.0 ≢ NoMemory).
    script_calls_fault d _ _ _ _ head clock c.main_list.ensures (rw c.new-calls.ensures at (c.in_err-add_calls.ensures.fault named)) in
    search rules

pub returns-clause-ok : goal.returns-clause-ok
returns-clause-ok c =
    let d = view c.args.value.now in
    let head = sym c.read_context.ensures ∙ c.in_ok-context.was in
    let clock = clock_is d _ _ head (c.clock_at-clock.ensures ∙ ap (λ version. clock_at version c.in_ok-context.context.rate) c.count.ensures) in
    script_read d _ _ _ _ head clock c.main_list.ensures (rw c.new-calls.ensures at c.in_ok-add_calls.ensures.ok)

pub returns-clause-well_formed : goal.returns-clause-well_formed
returns-clause-well_formed c =
    let d = view c.args.value.now in
    let head = sym c.read_context.ensures ∙ c.in_ok-context.was in
    let clock = clock_is d _ _ head (c.clock_at-clock.ensures ∙ ap (λ version. clock_at version c.in_ok-context.context.rate) c.count.ensures) in
    let calls = rw c.new-calls.ensures at c.in_ok-add_calls.ensures.ok in
    read_well_formed d _ _ _ _ (main_texts_of d _ c.main_list.ensures (view_texts c.args.value.now)) head calls
    (read_nested d _ (view_texts c.args.value.now) (script_read d _ _ _ _ head clock c.main_list.ensures calls))

pub returns-clause-nested : goal.returns-clause-nested
returns-clause-nested c =
    let d = view c.args.value.now in
    let head = sym c.read_context.ensures ∙ c.in_ok-context.was in
    let clock = clock_is d _ _ head (c.clock_at-clock.ensures ∙ ap (λ version. clock_at version c.in_ok-context.context.rate) c.count.ensures) in
    read_nested d _ (view_texts c.args.value.now) (script_read d _ _ _ _ head clock c.main_list.ensures (rw c.new-calls.ensures at c.in_ok-add_calls.ensures.ok))

pub add_calls-requires : goal.add_calls-requires
add_calls-requires c = main_less (view c.args.value.now) _ c.main_list.ensures (object_of_head _ _ _ (sym c.read_context.ensures ∙ c.in_ok-context.was)) c.requires
