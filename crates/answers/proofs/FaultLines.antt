-- The line of a fault, as its parts are written.
use Rattle.std.proofs.Common.{◌≡◌, ℕ, ◌++◌, codes, append_assoc}
use Rattle.std.specs.Fmt.{decimal}
use Rattle.script_ast.specs.declared.fields.Field.{Field}
use Rattle.script_ast.specs.Fields.{field_word}
use Rattle.script_fields.specs.declared.faults.ScriptErr.TheVariants.{MissingField, WrongKind, UnknownOp, OutOfRange}
use Rattle.answers.specs.FaultLine.{fault_line}

pub line_of_missing_field : (ordinal : ℕ) (field : Field)
    → fault_line (MissingField ordinal field) ≡ codes "script: " ++ (decimal ordinal ++ (codes " " ++ (field_word field ++ codes " MissingField\n")))
unfolding fault_line
line_of_missing_field ordinal field = simp append_assoc

pub line_of_wrong_kind : (ordinal : ℕ) (field : Field)
    → fault_line (WrongKind ordinal field) ≡ codes "script: " ++ (decimal ordinal ++ (codes " " ++ (field_word field ++ codes " WrongKind\n")))
unfolding fault_line
line_of_wrong_kind ordinal field = simp append_assoc

pub line_of_unknown_op : (ordinal : ℕ) → fault_line (UnknownOp ordinal) ≡ codes "script: " ++ (decimal ordinal ++ codes " op UnknownOp\n")
unfolding fault_line
line_of_unknown_op ordinal = simp append_assoc

pub line_of_out_of_range : (ordinal : ℕ) (field : Field)
    → fault_line (OutOfRange ordinal field) ≡ codes "script: " ++ (decimal ordinal ++ (codes " " ++ (field_word field ++ codes " OutOfRange\n")))
unfolding fault_line
line_of_out_of_range ordinal field = simp append_assoc
