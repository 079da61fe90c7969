-- The text of a script: JSON with no space, whose members stand in the order of their names' bytes.
use Rattle.std.specs.Prelude.{ℕ, ◌==◌, List, [], ◌∷◌, ◌++◌, if◌then◌else◌, Option, Some, None}
use Rattle.serde_json.specs.Data.{Data, string, array, object, Items, no_items, item, Members, no_members, put}
use Rattle.serde_json.specs.Written.{compact_text}
use Rattle.wa_base.specs.declared.contexts.ContextSpec.{ContextSpec}
use Rattle.script_ast.specs.Entries.{op_word}
use Rattle.script_ast.specs.Fields.{field_word}
use Rattle.script_ast.specs.declared.call_list.Call.{Call}
use Rattle.script_ast.specs.declared.call_list.Script.{Script}
use Rattle.script_ast.specs.declared.entries.OpName.{OpName}
use Rattle.script_ast.specs.declared.fields.Field.{Field}
use Rattle.script_ast.specs.declared.fields.Field.TheVariants as field
use Rattle.script_ast.specs.declared.operations.Op.{Op}
use Rattle.script_text.specs.Members.{count, name_of, fields_given}

-- these members, each at its place among those that are there
abbrev pub with_fields : List (Field × Data) → Members → Members
with_fields [] members = members
with_fields (given ∷ rest) members = with_fields rest (put (field_word given.0) given.1 members)

-- an object of these members, which it has in the order of their names' bytes
abbrev pub object_of : List (Field × Data) → Data
object_of given = object (with_fields given no_members)

-- the member `op`
abbrev pub op_field : Option OpName → List (Field × Data)
op_field None = []
op_field (Some name) = (field.Op, string (op_word name)) ∷ []

-- a call of an operation, with times at so many frames a second and with these calls in its `then` list, if it has one
abbrev pub call_data : ℕ → Items → Op → Data
call_data rate held op = object_of (op_field (name_of op) ++ fields_given rate held op)

-- of the calls those that the call with the ordinal `holder` holds (0 for the main list), each with those that it holds itself, which come after it
unfoldable pub held_calls : ℕ → ℕ → List Call → Items
held_calls rate holder [] = no_items
held_calls rate holder (call ∷ calls) =
    if call.holder == holder
    then item (call_data rate (held_calls rate call.ordinal calls) call.op) (held_calls rate holder calls)
    else held_calls rate holder calls

-- a context
abbrev pub context_data : ContextSpec → Data
context_data context = object_of
    ((field.Channels, count context.channels) ∷ (field.Length, count context.length) ∷ (field.Rate, count context.rate) ∷ (field.RenderQuantum, count context.quantum) ∷ [])

-- a script as a JSON value of version 2
unfoldable pub data_of : Script → Data
data_of script = object_of
    ((field.Version, count 2) ∷ (field.Context, context_data script.context) ∷ (field.Calls, array (held_calls script.context.rate 0 script.calls)) ∷ [])

-- the text of a script
unfoldable pub script_text : Script → List ℕ
script_text script = compact_text (data_of script)
