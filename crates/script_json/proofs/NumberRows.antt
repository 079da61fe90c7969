-- The numbers that tell a node, beside the rows of the creation that makes it.
use Rattle.std.proofs.Common.{◌≡◌, List, [], ◌∷◌, drop, Bool, true}
use Rattle.std.specs.Prelude.{⊤, not, ◌&&◌, bytes_eq}
use Rattle.std.specs.List.{list_all}
use Rattle.serde_json.specs.Data.{Data}
use Rattle.wa_base.specs.Numbers.{IsFix}
use Rattle.script_ast.specs.Entries.{row, creation_fields}
use Rattle.script_ast.specs.Fields.{field_word}
use Rattle.script_ast.specs.Ranges.{IsCount, AreFixes}
use Rattle.script_ast.specs.declared.entries.Creation.{Creation}
use Rattle.script_ast.specs.declared.entries.Fallback.TheVariants.{Needed}
use Rattle.script_ast.specs.declared.entries.Kind.TheVariants as kind
use Rattle.script_ast.specs.declared.entries.Row.{Row}
use Rattle.script_ast.specs.declared.fields.Field.{Field}
use Rattle.script_fields.specs.Fields.{fix_in, count_in, fixes_in}
use Rattle.script_json.specs.Numbers.{Number}
use Rattle.script_json.specs.Numbers as number

-- the rows of a creation behind that of its name
abbrev pub number_rows : Creation → List Row
number_rows name = drop 1 (creation_fields name)

-- the number is in its range
abbrev pub IsNumber : Number → Type 0
IsNumber (number.fix z) = IsFix z
IsNumber (number.count n) = IsCount n
IsNumber (number.fixes zs) = AreFixes zs

abbrev pub AreNumbers : List (Field × Number) → Type 0
AreNumbers [] = ⊤
AreNumbers (given ∷ rest) = IsNumber given.1 × AreNumbers rest

-- the row is that of a field which holds such a number; one for several values has no default
abbrev pub IsRowOf : Row → Field → Number → Type 0
IsRowOf of field (number.fix z) = of ≡ row field kind.Fix of.fallback
IsRowOf of field (number.count n) = of ≡ row field kind.Count of.fallback
IsRowOf of field (number.fixes zs) = of ≡ row field kind.Fixes Needed

abbrev pub AreRowsOf : List Row → List (Field × Number) → Type 0
AreRowsOf [] [] = ⊤
AreRowsOf [] (given ∷ rest) = ⊥
AreRowsOf (of ∷ rows) [] = ⊥
AreRowsOf (of ∷ rows) (given ∷ rest) = IsRowOf of given.0 given.1 × AreRowsOf rows rest

-- the field of a call is read as the number
abbrev pub IsReadAs : List Row → Data → Field → Number → Type 0
IsReadAs entry d field (number.fix z) = fix_in entry field d ≡ z
IsReadAs entry d field (number.count n) = count_in entry field d ≡ n
IsReadAs entry d field (number.fixes zs) = fixes_in field d ≡ zs

abbrev pub AreReadAs : List Row → Data → List (Field × Number) → Type 0
AreReadAs entry d [] = ⊤
AreReadAs entry d (given ∷ rest) = IsReadAs entry d given.0 given.1 × AreReadAs entry d rest

-- no field among these has the word of this one
abbrev pub is_apart : Field → List Field → Bool
is_apart field fields = list_all (λ other. not (bytes_eq (field_word field) (field_word other))) fields

-- no two of the fields have the same word
abbrev pub are_apart : List Field → Bool
are_apart [] = true
are_apart (field ∷ fields) = is_apart field fields && are_apart fields
