-- The creations of nodes by their numbers alone: the text of each is kept, and read as it.
use Rattle.std.proofs.Common.{◌≡◌, ℕ, List, [], ◌∷◌, ◌++◌, map, Some, refl, sym, ap, subst, ◌∙◌, pos}
use Rattle.std.specs.Prelude.{nat_abs, option_map, option_and_then, unwrap_or, if◌then◌else◌}
use Rattle.serde_json.specs.Data.{Data, string, object, Items, no_items, Members, no_members}
use Rattle.serde_json.specs.Find.{get_member, as_array, as_str}
use Rattle.node_table.specs.declared.kinds.Kind.{Kind}
use Rattle.script_ast.specs.Entries.{row, creation_word, creation_fields, op_named}
use Rattle.script_ast.specs.Fallbacks.{fallback_in}
use Rattle.script_ast.specs.Fields.{field_word}
use Rattle.script_ast.specs.Operations.{IsInRange}
use Rattle.script_ast.specs.declared.clocks.Clock.{Clock}
use Rattle.script_ast.specs.declared.clocks.Clock.TheVariants.{Seconds}
use Rattle.script_ast.specs.declared.entries.Creation.{Creation}
use Rattle.script_ast.specs.declared.entries.Fallback.TheVariants.{Needed}
use Rattle.script_ast.specs.declared.entries.Kind.TheVariants as kind
use Rattle.script_ast.specs.declared.entries.OpName.TheVariants.{Create}
use Rattle.script_ast.specs.declared.entries.Row.{Row}
use Rattle.script_ast.specs.declared.fields.Field.{Field}
use Rattle.script_ast.specs.declared.fields.Field.TheVariants as field
use Rattle.script_ast.specs.declared.operations.Op.TheVariants as op
use Rattle.script_fields.specs.Fields.{field_faults, member_faults, number_in, given_number, text_in, fixes_of}
use Rattle.script_fields.specs.Fields.{number_within}
use Rattle.script_fields.specs.Values.{whole}
use Rattle.script_json.proofs.CreationLaws.{IsWritten, is_read, is_written}
use Rattle.script_json.proofs.NumberRows.{number_rows, IsNumber, AreNumbers, IsRowOf, AreRowsOf, IsReadAs, AreReadAs, are_apart}
use Rattle.script_json.specs.Calls.{placed, then_calls, has_then}
use Rattle.script_json.specs.Creations.{numbers_of}
use Rattle.script_json.specs.Numbers.{Number}
use Rattle.script_json.specs.Numbers as told
use Rattle.script_text.specs.Members.{number_data, number_field}
use Rattle.script_text.specs.Text.{with_fields, object_of, op_field, call_data}
use Rattle.script_text.proofs.Law.Back.{AreFine, IsReadFrom, IsReadBack}
use Rattle.script_text.proofs.Law.Objects.{fields_in, AreFound, fields_found}
use Rattle.script_text.proofs.Law.Values.{fix_fine, count_fine, new_name_fine, fixes_fine, fix_value, count_value, fixes_value, least_fix, most_fix, most_count}

-- ---- the members

-- the members of a creation: its name, the new node's name, and its numbers
abbrev pub given_by : Creation → List ℕ → List (Field × Number) → List (Field × Data)
given_by name new_name numbers = (field.Op, string (creation_word name)) ∷ (field.As, string new_name) ∷ map number_field numbers

same_fields : (numbers : List (Field × Number)) → fields_in (map number_field numbers) ≡ map (λ given. given.0) numbers
same_fields [] = refl
same_fields (given ∷ rest) = ap (λ fields. given.0 ∷ fields) (same_fields rest)

-- the text of the creation of a kind is made of them
pub as_given : (rate : ℕ) (held : Items) (new_name : List ℕ) (made : Kind) (is : IsWritten made)
    → call_data rate held (op.Create new_name made) ≡ object_of (given_by is.name new_name (numbers_of made))
as_given rate held new_name made is = ap (λ o. object_of (op_field (option_map Create o) ++ (field.As, string new_name) ∷ map number_field (numbers_of made))) is.makes

-- ---- the numbers

-- a member that holds a number has no fault in a row of its kind
row_fine : (clock : Clock) (n : ℕ) (ms : Members) (of : Row) (f : Field) (x : Number) → IsRowOf of f x → IsNumber x → get_member (field_word f) ms ≡ Some (number_data x)
    → field_faults clock n (object ms) of ≡ []
row_fine clock n ms of f (told.fix z) is range found = ap (field_faults clock n (object ms)) is ∙ ap (member_faults clock n (row f kind.Fix of.fallback)) found ∙ fix_fine clock n f of.fallback z range
row_fine clock n ms of f (told.count k) is range found = ap (field_faults clock n (object ms)) is ∙ ap (member_faults clock n (row f kind.Count of.fallback)) found ∙ count_fine clock n f of.fallback k range
row_fine clock n ms of f (told.fixes zs) is range found = ap (field_faults clock n (object ms)) is ∙ ap (member_faults clock n (row f kind.Fixes Needed)) found ∙ fixes_fine clock n f Needed zs range

rows_fine : (clock : Clock) (n : ℕ) (ms : Members) (rows : List Row) (numbers : List (Field × Number)) → AreRowsOf rows numbers → AreNumbers numbers → AreFound ms (map number_field numbers)
    → AreFine clock n (object ms) rows
rows_fine clock n ms [] [] are range found = tt
rows_fine clock n ms [] (given ∷ rest) are range found = absurd are
rows_fine clock n ms (of ∷ rows) [] are range found = absurd are
rows_fine clock n ms (of ∷ rows) (given ∷ rest) are range found =
    (row_fine clock n ms of given.0 given.1 are.0 range.0 found.0, rows_fine clock n ms rows rest are.1 range.1 found.1)

-- a member that holds a number is read as it
number_back : (entry : List Row) (ms : Members) (f : Field) (x : Number) → IsNumber x → get_member (field_word f) ms ≡ Some (number_data x) → IsReadAs entry (object ms) f x
unfolding number_in
number_back entry ms f (told.fix z) range found =
    ap (λ o. unwrap_or (number_within least_fix most_fix (given_number (fallback_in entry f) (option_map whole o))) (pos 0)) found ∙ fix_value z range
number_back entry ms f (told.count n) range found =
    ap (λ o. nat_abs (unwrap_or (number_within (pos 0) most_count (given_number (fallback_in entry f) (option_map whole o))) (pos 0))) found ∙ count_value n range
number_back entry ms f (told.fixes zs) range found = ap (λ o. fixes_of (unwrap_or (option_and_then as_array o) no_items)) found ∙ fixes_value zs range

numbers_back : (entry : List Row) (ms : Members) (numbers : List (Field × Number)) → AreNumbers numbers → AreFound ms (map number_field numbers) → AreReadAs entry (object ms) numbers
numbers_back entry ms [] range found = tt
numbers_back entry ms (given ∷ rest) range found = (number_back entry ms given.0 given.1 range.0 found.0, numbers_back entry ms rest range.1 found.1)

-- ---- the call

module _ (rate n : ℕ) (held : Items) (new_name : List ℕ) (made : Kind) (range : IsInRange (op.Create new_name made)) (is : IsWritten made) where
  abbrev members : Members
  members = with_fields (given_by is.name new_name (numbers_of made)) no_members

  found : AreFound members (given_by is.name new_name (numbers_of made))
  found = fields_found (given_by is.name new_name (numbers_of made)) no_members (ap (λ fields. are_apart (field.Op ∷ field.As ∷ fields)) (same_fields (numbers_of made)) ∙ is.apart)

  named_back : option_and_then op_named (option_and_then as_str (get_member (field_word field.Op) members)) ≡ Some (Create is.name)
  named_back = ap (λ o. option_and_then op_named (option_and_then as_str o)) found.0 ∙ is.named

  entry_fine : AreFine (Seconds rate) n (object members) (creation_fields is.name)
  entry_fine = subst (λ rows. AreFine (Seconds rate) n (object members) rows) (sym (is_read is.name (object members)).entry) (
    ap (member_faults (Seconds rate) n (row field.As kind.NewName Needed)) found.1.0 ∙ new_name_fine (Seconds rate) n new_name range.0,
    rows_fine (Seconds rate) n members (number_rows is.name) (numbers_of made) is.rows is.range found.1.1,
  )

  name_back : text_in field.As (object members) ≡ new_name
  unfolding text_in
  name_back = ap (λ o. unwrap_or (option_and_then as_str o) []) found.1.0

  holds_none : (if has_then (option_and_then op_named (option_and_then as_str (get_member (field_word field.Op) members))) then then_calls members n else []) ≡ []
  holds_none = ap (λ b. if b then then_calls members n else []) (ap has_then named_back ∙ (is_read is.name (object members)).alone)

  from_members : IsReadFrom (object members) rate n held (op.Create new_name made)
  unfolding placed
  from_members = record {
    name = Create is.name;
    is_named = named_back;
    joint = refl;
    fine = entry_fine;
    means = λ t. op.Create (name_back t) (is.back (object members) (numbers_back (creation_fields is.name) members (numbers_of made) is.range found.1.1) t);
    holds = holds_none;
  }

-- the text of a creation by numbers is read as it
pub read_creation : (rate n : ℕ) (held : Items) (new_name : List ℕ) (made : Kind) → IsInRange (op.Create new_name made) → IsReadBack rate n held (op.Create new_name made)
read_creation rate n held new_name made range =
    let is = is_written made range.3 range.2 in
    subst (λ d. IsReadFrom d rate n held (op.Create new_name made)) (sym (as_given rate held new_name made is)) (from_members rate n held new_name made range is)
