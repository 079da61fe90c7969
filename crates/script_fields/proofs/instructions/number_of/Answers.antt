use Rattle.std.proofs.Common.{rules, ◌≡◌, true}
use Rattle.script_fields.specs.Instructions.{is_number}
use Rattle.script_fields.proofs.Programs.{past_number}
use Rattle.script_fields.proofs.instructions.number_of.Goals as goal

pub returns-in_default : goal.returns-in_default
returns-in_default c =
    let is : is_number c.args.text.now ≡ true = search rules in
    past_number c.args.text.now c.in_default.field-0 c.in_default.ensures.value.0 is
