use Rattle.answers.proofs.FaultLines.{line_of_missing_field, line_of_wrong_kind, line_of_unknown_op, line_of_out_of_range}
use Rattle.answers.proofs.script_faults.fault_line.Goals as goal

pub returns-in-MissingField : goal.returns-in-MissingField
returns-in-MissingField c = rw (c.in-MissingField.is, line_of_missing_field, ← c.word.ensures) c.format.ensures.ok

pub returns-in-WrongKind : goal.returns-in-WrongKind
returns-in-WrongKind c = rw (c.in-WrongKind.is, line_of_wrong_kind, ← c.word-in-WrongKind.ensures) c.format-in-WrongKind.ensures.ok

pub returns-in-UnknownOp : goal.returns-in-UnknownOp
returns-in-UnknownOp c = rw (c.in-UnknownOp.is, line_of_unknown_op) c.format-in-UnknownOp.ensures.ok

pub returns-in-OutOfRange : goal.returns-in-OutOfRange
returns-in-OutOfRange c = rw (c.in-OutOfRange.is, line_of_out_of_range, ← c.word-in-OutOfRange.ensures) c.format-in-OutOfRange.ensures.ok
