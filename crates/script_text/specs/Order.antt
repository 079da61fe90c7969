-- What the private clauses of the writer say of the calls that it goes through: they come in document order.
use Rattle.std.specs.Prelude.{ℕ, ◌≡◌, ◌+◌, ◌≤◌, ◌<◌, ◌⊎◌, List, [], ◌∷◌, ◌++◌, All, IsTrue}
use Rattle.serde_json.specs.Data.{Items, no_items, item, array}
use Rattle.serde_json.specs.Written.{compact_text}
use Rattle.json.specs.Print.{quoted}
use Rattle.script_ast.specs.Entries.{op_word}
use Rattle.script_ast.specs.Fields.{field_word}
use Rattle.script_ast.specs.Holders.{holds_calls}
use Rattle.script_ast.specs.declared.call_list.Call.{Call}
use Rattle.script_ast.specs.declared.entries.OpName.{OpName}
use Rattle.script_ast.specs.declared.fields.Field.TheVariants as field

-- a later call stands in no list that ended before an earlier one: it is past the list of the earlier one, or it stands in it or in a list within it
abbrev pub Follows : Call → Call → Type 0
Follows first later = (later.holder ≤ first.holder) ⊎ ((first.ordinal ≤ later.holder) × ((later.holder ≡ first.ordinal) → IsTrue (holds_calls first.op)))

-- the calls come in document order, and the first of them has the ordinal n + 1
abbrev pub AreInOrder : ℕ → List Call → Type 0
AreInOrder n [] = Unit {0}
AreInOrder n (call ∷ calls) = (call.ordinal ≡ n + 1) × (call.holder ≤ n) × All (Follows call) calls × AreInOrder (n + 1) calls

-- the first of the calls, if there is one, has a holder below this one
abbrev pub BeginBelow : ℕ → List Call → Type 0
BeginBelow holder [] = Unit {0}
BeginBelow holder (call ∷ calls) = call.holder < holder

-- the calls of the list of this holder may come first among these
abbrev pub MayBeginWith : ℕ → List Call → Type 0
MayBeginWith holder calls = (n : ℕ) × (holder ≤ n) × AreInOrder n calls × BeginBelow (holder + 1) calls

-- what is left of the calls after some that this one holds, or that calls within it hold
pub record IsAfter (holder : ℕ) (calls rest : List Call) : Type 0 where
  pub passed : List Call
  pub parts : calls ≡ passed ++ rest
  pub within : All (λ (call : Call). holder ≤ call.holder) passed

-- the member for the calls that a call holds, where it holds any, after other members
abbrev pub then_text : Items → List ℕ
then_text no_items = []
then_text (item d ds) = 44 ∷ (quoted (field_word field.Then) ++ 58 ∷ compact_text (array (item d ds)))

-- the beginning of a call that holds calls: the member with its name
abbrev pub opened_text : OpName → List ℕ
opened_text name = 123 ∷ (quoted (field_word field.Op) ++ 58 ∷ quoted (op_word name))
