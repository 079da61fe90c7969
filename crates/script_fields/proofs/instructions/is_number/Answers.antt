use Rattle.std.proofs.Common.{rules, ◌≢◌, length}
use Rattle.script_fields.proofs.Programs.{number_if}
use Rattle.script_fields.proofs.instructions.is_number.Goals as goal

pub returns-then-not-is_empty : goal.returns-then-not-is_empty
returns-then-not-is_empty c =
    let some : length c.args.text.now ≢ 0 = search rules in
    number_if c.args.text.now _ some c.has_digits.ensures
