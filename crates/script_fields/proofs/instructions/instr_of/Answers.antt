use Rattle.std.proofs.Common.{arith}
use Rattle.script_fields.proofs.Programs.{plain_read}
use Rattle.script_fields.proofs.instructions.instr_of.Goals as goal

pub returns-in-Some-plain_instr_of : goal.returns-in-Some-plain_instr_of
returns-in-Some-plain_instr_of c =
    plain_read c.args.text.now _ (c.in-None.ensures.byte (omega arith) (λ w o h. h)) c.in-Some-plain_instr_of.ensures
