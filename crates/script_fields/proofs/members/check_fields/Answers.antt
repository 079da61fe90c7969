use Rattle.std.proofs.Common.{sym, ◌∙◌, rules}
use Rattle.script_fields.proofs.Outcomes.{no_fault_at, fault_at}
use Rattle.script_fields.proofs.members.check_fields.Goals as goal

pub returns-in_err-check_field : goal.returns-in_err-check_field
returns-in_err-check_field c =
    let first = fault_at _ _ _ _ _ _ _ c.loop-row-test.true (sym c.check_field.ensures ∙ c.in_err-check_field.was) in
    search rules

pub loop-row-preserved : goal.loop-row-preserved
loop-row-preserved c = c.loop-row.invariant ∙ no_fault_at _ _ _ _ _ _ _ c.loop-row-test.true (sym c.check_field.ensures ∙ c.in_ok-check_field.was)
