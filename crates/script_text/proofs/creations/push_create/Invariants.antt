use Rattle.std.proofs.Common.{◌≡◌, ◌∷◌, ◌++◌, drop, map}
use Rattle.std.specs.Prelude.{option_map}
use Rattle.serde_json.specs.Data.{string, no_members}
use Rattle.script_ast.specs.Entries.{creation_of}
use Rattle.script_ast.specs.declared.entries.OpName.TheVariants.{Create}
use Rattle.script_ast.specs.declared.fields.Field.TheVariants as field
use Rattle.script_json.specs.Creations.{numbers_of}
use Rattle.script_json.specs.Given.{number_given}
use Rattle.script_text.specs.Members.{number_field}
use Rattle.script_text.specs.Text.{with_fields, op_field}
use Rattle.script_text.specs.Writing.{members_given}
use Rattle.script_text.proofs.creations.push_create.Given as goal

abbrev pub invariant-loop-number : goal.invariant-loop-number
invariant-loop-number l = with_fields (op_field (option_map Create (creation_of l.kind)) ++ (field.As, string l.name) ∷ map number_field (numbers_of l.kind)) no_members
    ≡ with_fields (map number_field (map number_given (drop l.number-index l.number-items))) (members_given l.rate l.members.items)
