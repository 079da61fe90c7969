-- The default of a field of an entry.
use Rattle.std.specs.Prelude.{List, bytes_eq, find, Option, Some, None}
use Rattle.script_ast.specs.Fields.{field_word}
use Rattle.script_ast.specs.declared.entries.Fallback.{Fallback}
use Rattle.script_ast.specs.declared.entries.Fallback.TheVariants.{Needed}
use Rattle.script_ast.specs.declared.entries.Row.{Row}
use Rattle.script_ast.specs.declared.fields.Field.{Field}

-- the row of the field with this name
abbrev pub row_in : List Row → Field → Option Row
row_in rows field = find (λ row. bytes_eq (field_word row.field) (field_word field)) rows

-- the default that a row has; a field without a row is needed
abbrev pub fallback_of : Option Row → Fallback
fallback_of None = Needed
fallback_of (Some row) = row.fallback

-- the default of the field with this name in an entry
abbrev pub fallback_in : List Row → Field → Fallback
fallback_in rows field = fallback_of (row_in rows field)
