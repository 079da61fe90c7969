-- The line that tells a script's fault.
use Rattle.std.specs.Prelude.{ℕ, List, [], ◌++◌, codes, decimal}
use Rattle.script_ast.specs.Fields.{field_word}
use Rattle.script_fields.specs.declared.faults.ScriptErr.{ScriptErr}
use Rattle.script_fields.specs.declared.faults.ScriptErr.TheVariants.{BadJson, MissingField, WrongKind, UnknownOp, OutOfRange, NoMemory}

-- the ordinal of the call, the member that has the fault, and its cause
abbrev pub member_line : ℕ → List ℕ → List ℕ → List ℕ
member_line ordinal member cause = codes "script: " ++ decimal ordinal ++ codes " " ++ member ++ codes " " ++ cause ++ codes "\n"

-- want of memory is no fault of a script and has no line
unfoldable pub fault_line : ScriptErr → List ℕ
fault_line BadJson = codes "script: BadJson\n"
fault_line (MissingField ordinal field) = member_line ordinal (field_word field) (codes "MissingField")
fault_line (WrongKind ordinal field) = member_line ordinal (field_word field) (codes "WrongKind")
fault_line (UnknownOp ordinal) = member_line ordinal (codes "op") (codes "UnknownOp")
fault_line (OutOfRange ordinal field) = member_line ordinal (field_word field) (codes "OutOfRange")
fault_line NoMemory = []
