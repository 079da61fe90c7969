-- The first of a list of faults.
use Rattle.std.specs.Prelude.{List, [], ◌∷◌, Result, Ok, Err}
use Rattle.script_fields.specs.declared.faults.ScriptErr.{ScriptErr}

-- the value where there is no fault, else the first fault
abbrev pub outcome : {A : Type 0} → List ScriptErr → A → Result A ScriptErr
outcome [] value = Ok value
outcome (fault ∷ faults) value = Err fault
