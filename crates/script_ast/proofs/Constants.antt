-- The members of a script and of its context, as the code has them, are those of the definitions.
use Rattle.std.specs.Prelude.{◌≡◌, refl}
use Rattle.script_ast.specs.Entries.{script_head, context_fields, script_tail}
use Rattle.script_ast.specs.declared.entries.TheConstants.{SCRIPT_HEAD, CONTEXT_FIELDS, SCRIPT_TAIL}

head_is : SCRIPT_HEAD ≡ script_head
head_is = refl

context_is : CONTEXT_FIELDS ≡ context_fields
context_is = refl

tail_is : SCRIPT_TAIL ≡ script_tail
tail_is = refl
