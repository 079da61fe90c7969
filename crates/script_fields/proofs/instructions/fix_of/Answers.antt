use Rattle.std.proofs.Common.{rules, ◌≡◌, ◌∙◌, true, false, ap, sym}
use Rattle.script_fields.specs.Instructions.{is_number, without_minus}
use Rattle.script_fields.proofs.Programs.{no_fix, past_fix}
use Rattle.script_fields.proofs.instructions.fix_of.Goals as goal

pub returns-then-not-is_number : goal.returns-then-not-is_number
returns-then-not-is_number c =
    let same = ap is_number (sym c.without_minus.ensures) ∙ sym c.is_number.ensures in
    let is_not : is_number (without_minus c.args.text.now) ≡ false = search rules in
    no_fix c.args.text.now is_not

pub returns-in-Err : goal.returns-in-Err
returns-in-Err c =
    let same = ap is_number (sym c.without_minus.ensures) ∙ sym c.is_number.ensures in
    let is : is_number (without_minus c.args.text.now) ≡ true = search rules in
    past_fix c.args.text.now c.in-Err.field-0 c.in-Err.ensures.value.0 is
