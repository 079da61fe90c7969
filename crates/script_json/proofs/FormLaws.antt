-- A disconnect that is read has one of its forms: an input stands beside `to` and the output.
use Rattle.std.proofs.Common.{◌≡◌, ℕ, List, [], ◌∷◌, ◌++◌, refl, Option, Some, None, Bool, true, false, ℤ, pos}
use Rattle.std.specs.Prelude.{IsSome, is_some, not, ◌&&◌, nat_abs, option_and_then, option_map, if◌then◌else◌}
use Rattle.serde_json.specs.Data.{Data, null, boolean, number, string, array, object}
use Rattle.serde_json.specs.Find.{as_null, as_str}
use Rattle.script_ast.specs.Ranges.{IsDisconnectForm}
use Rattle.script_ast.specs.Entries.{row, disconnect}
use Rattle.script_ast.specs.declared.clocks.Clock.{Clock}
use Rattle.script_ast.specs.declared.entries.Fallback.TheVariants.{Needed, Null}
use Rattle.script_ast.specs.declared.entries.Kind.TheVariants as kind
use Rattle.script_ast.specs.declared.fields.Field.{Field}
use Rattle.script_ast.specs.declared.fields.Field.TheVariants as field
use Rattle.script_json.proofs.CallSteps.{both_none}
use Rattle.script_json.specs.Calls.{form_faults}
use Rattle.script_fields.specs.Fields.{member_at, is_given, is_there, lack_faults, cause_faults, member_faults, field_faults, fields_faults, number_within, count_or_null_in, text_or_null_in}
use Rattle.script_fields.specs.Values.{whole, is_within, number_cause, kind_cause}
use Rattle.script_fields.specs.declared.faults.ScriptErr.{ScriptErr}
use Rattle.script_fields.specs.declared.values.Cause.TheVariants.{OutOfRange}

-- the values of a count that may be null, and of a name that may be null, as `count_or_null_in` and `text_or_null_in` take them from a member
abbrev count_value : Option Data → Option ℕ
count_value o = option_map nat_abs (number_within (pos 0) (pos 4294967295) (option_and_then whole o))

abbrev text_value : Option Data → Option (List ℕ)
text_value o = option_and_then as_str o

-- ---- a member that is there and has no fault has a value

within_given : (n : ℕ) (field : Field) (z : ℤ) (b : Bool) → cause_faults n field (if b then None else Some OutOfRange) ≡ []
    → is_some (option_map nat_abs (if b then Some z else None)) ≡ true
within_given n field z true h = refl
within_given n field z false h = cc

number_given : (n : ℕ) (field : Field) (o : Option ℤ) → cause_faults n field (number_cause (pos 0) (pos 4294967295) o) ≡ []
    → is_some (option_map nat_abs (number_within (pos 0) (pos 4294967295) o)) ≡ true
number_given n field None h = cc
number_given n field (Some z) h = within_given n field z (is_within (pos 0) (pos 4294967295) z) h

text_given : (n : ℕ) (field : Field) (b : Bool) → cause_faults n field (kind_cause b) ≡ [] → b ≡ true
text_given n field true h = refl
text_given n field false h = cc

-- the faults of a member that is there are those of its value, also where it may be null
faults_given : (faults : List ScriptErr) (b : Bool) → not b ≡ true → (if true && b then [] else faults) ≡ [] → faults ≡ []
faults_given faults true there h = cc
faults_given faults false there h = h

count_there : (clock : Clock) (n : ℕ) (o : Option Data) → member_faults clock n (row field.Output kind.Count Null) o ≡ [] → is_given o ≡ true → IsSome (count_value o)
count_there clock n None h there = cc
count_there clock n (Some d) h there = number_given n _ (whole d) (faults_given _ (is_some (as_null d)) there h)

text_there : (clock : Clock) (n : ℕ) (o : Option Data) → member_faults clock n (row field.To kind.Name Null) o ≡ [] → is_given o ≡ true → IsSome (text_value o)
text_there clock n None h there = cc
text_there clock n (Some d) h there = text_given n _ (is_some (as_str d)) (faults_given _ (is_some (as_null d)) there h)

-- ---- a member with a value is there

value_there : (o : Option Data) → IsSome (count_value o) → is_given o ≡ true
value_there None h = cc
value_there (Some null) h = cc
value_there (Some (boolean b)) h = refl
value_there (Some (number x)) h = refl
value_there (Some (string s)) h = refl
value_there (Some (array ds)) h = refl
value_there (Some (object ms)) h = refl

-- ---- the form

no_lack : (b : Bool) (fault : ScriptErr) → (if b then [] else fault ∷ []) ≡ [] → b ≡ true
no_lack true fault h = refl
no_lack false fault h = cc

beside_input : (n : ℕ) (d : Data) (b : Bool) → (if b then lack_faults n d field.To ++ lack_faults n d field.Output else []) ≡ [] → b ≡ true
    → (is_there field.Output d ≡ true) × (is_there field.To d ≡ true)
beside_input n d true h there = let e = both_none _ _ h in (no_lack _ _ e.1, no_lack _ _ e.0)
beside_input n d false h there = cc

form_of : (output : Option ℕ) (to : Option (List ℕ)) (input : Option ℕ) → (IsSome input → IsSome output × IsSome to) → IsDisconnectForm output to input
form_of output to None beside = tt
form_of output to (Some n) beside = beside refl

middle_none : (ws xs ys zs : List ScriptErr) → ws ++ (xs ++ (ys ++ zs)) ≡ [] → (xs ≡ []) × (ys ≡ [])
middle_none ws xs ys zs h =
    let after_first = (both_none ws (xs ++ (ys ++ zs)) h).1 in
    ((both_none xs (ys ++ zs) after_first).0, (both_none ys zs (both_none xs (ys ++ zs) after_first).1).0)

pub disconnect_form : (clock : Clock) (n : ℕ) (d : Data) → fields_faults clock n d disconnect ≡ [] → form_faults n d ≡ []
    → IsDisconnectForm (count_or_null_in field.Output d) (text_or_null_in field.To d) (count_or_null_in field.Input d)
unfolding count_or_null_in text_or_null_in
disconnect_form clock n d fields form =
    let good = middle_none (field_faults clock n d (row field.From kind.Name Needed)) (field_faults clock n d (row field.Output kind.Count Null)) (field_faults clock n d (row field.To kind.Name Null)) _ fields in
    form_of (count_value (member_at field.Output d)) (text_value (member_at field.To d)) (count_value (member_at field.Input d)) (λ input.
    let there = beside_input n d (is_there field.Input d) form (value_there (member_at field.Input d) input) in
    (count_there clock n (member_at field.Output d) good.0 there.0, text_there clock n (member_at field.To d) good.1 there.1))
