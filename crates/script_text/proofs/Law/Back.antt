-- What it is that a call is read again as its operation.
use Rattle.std.proofs.Common.{◌≡◌, ℕ, List, [], ◌∷◌, ◌++◌, Some, refl}
use Rattle.std.specs.Prelude.{⊤, if◌then◌else◌}
use Rattle.serde_json.specs.Data.{Data, Items}
use Rattle.script_ast.specs.Entries.{fields_of}
use Rattle.script_ast.specs.Holders.{holds_calls}
use Rattle.script_ast.specs.declared.clocks.Clock.{Clock}
use Rattle.script_ast.specs.declared.clocks.Clock.TheVariants.{Seconds}
use Rattle.script_ast.specs.declared.entries.OpName.{OpName}
use Rattle.script_ast.specs.declared.entries.Row.{Row}
use Rattle.script_ast.specs.declared.operations.Op.{Op}
use Rattle.script_fields.specs.Fields.{field_faults, fields_faults}
use Rattle.script_fields.specs.declared.faults.ScriptErr.{ScriptErr}
use Rattle.script_json.specs.Calls.{placed, held_by, name_in, joint_faults, op_faults, op_in}
use Rattle.script_text.specs.Text.{call_data}

-- ---- rows without a fault

pub both_empty : (xs ys : List ScriptErr) → xs ≡ [] → ys ≡ [] → xs ++ ys ≡ []
both_empty xs ys p q = rw (p, q) refl

-- no row has a fault
abbrev pub AreFine : Clock → ℕ → Data → List Row → Type 0
AreFine clock n d [] = ⊤
AreFine clock n d (row ∷ rows) = (field_faults clock n d row ≡ []) × AreFine clock n d rows

pub fields_fine : (clock : Clock) (n : ℕ) (d : Data) (rows : List Row) → AreFine clock n d rows → fields_faults clock n d rows ≡ []
fields_fine clock n d [] h = refl
fields_fine clock n d (row ∷ rows) h = both_empty (field_faults clock n d row) (fields_faults clock n d rows) h.0 (fields_fine clock n d rows h.1)

pub op_fine : (clock : Clock) (n : ℕ) (d : Data) (name : OpName) → joint_faults n d name ≡ [] → AreFine clock n d (fields_of name) → op_faults clock n d name ≡ []
op_fine clock n d name joint h = both_empty (fields_faults clock n d (fields_of name)) (joint_faults n d name) (fields_fine clock n d (fields_of name) h) joint

-- ---- a call

-- a call is read as the operation, without a fault, and holds the calls that it was given
pub record IsReadFrom (d : Data) (rate n : ℕ) (held : Items) (o : Op) : Type 0 where
  pub name : OpName
  pub is_named : name_in d ≡ Some name
  pub joint : joint_faults n d name ≡ []
  pub fine : AreFine (Seconds rate) n d (fields_of name)
  pub means : op_in (Seconds rate) name d ≡ o
  pub holds : held_by d n ≡ (if holds_calls o then placed held n n else [])

-- so is the text of a call
abbrev pub IsReadBack : ℕ → ℕ → Items → Op → Type 0
IsReadBack rate n held o = IsReadFrom (call_data rate held o) rate n held o
