-- What is read of a field without a fault is in its range.
use Rattle.std.proofs.Common.{◌≡◌, ℕ, List, [], refl, Option, Some, None, Bool, true, false, arith, ℤ, pos, negsuc, neg_ℤ, T}
use Rattle.std.specs.Prelude.{◌≤ℤ◌, All, map, option_map, option_and_then, unwrap_or, int_le, nat_abs, ◌&&◌, if◌then◌else◌}
use Rattle.std.specs.Int.Signed.{le_z_yes}
use Rattle.std.proofs.lemmas.Bool.{leb-true}
use Rattle.std.proofs.lemmas.Int.{ints}
use Rattle.std.proofs.lemmas.List.Elements.{All-nil, All-cons}
use Rattle.serde_json.specs.Data.{Data, Items, no_items, item}
use Rattle.serde_json.specs.Find.{as_array, as_str}
use Rattle.wa_base.specs.Numbers.{IsFix}
use Rattle.node_table.specs.declared.code.Instr.{Instr}
use Rattle.node_table.specs.declared.code.Instr.TheVariants as instr
use Rattle.script_ast.specs.Ranges.{IsTime, IsTimeIfSome, IsCount, IsCountIfSome, AreFixes, AreFixesIfSome, IsNewName, IsPath, IsInstr, is_new_name, is_path}
use Rattle.script_ast.specs.declared.clocks.Clock.{Clock}
use Rattle.script_ast.specs.Entries.{row}
use Rattle.script_ast.specs.Fallbacks.{fallback_in}
use Rattle.script_ast.specs.declared.entries.Fallback.TheVariants.{Needed}
use Rattle.script_ast.specs.declared.entries.Kind.TheVariants as kind
use Rattle.script_ast.specs.declared.entries.Row.{Row}
use Rattle.script_ast.specs.declared.fields.Field.{Field}
use Rattle.script_ast.specs.declared.fields.Field.TheVariants as field
use Rattle.script_fields.specs.Fields.{field_faults, cause_faults, member_faults, member_at, number_in, number_within, given_number, time_or_null_in, count_in, count_or_null_in, fix_of, fixes_of, fixes_in, fixes_or_null_in, code_in, list_in, text_in}
use Rattle.script_fields.specs.Instructions.{instr_of, is_in_range, instrs, instr_or_in, code_of}
use Rattle.script_fields.specs.Values.{whole, wholes, frames, is_within, text_cause}
use Rattle.script_fields.specs.declared.values.Cause.TheVariants.{OutOfRange}

both_true : (a b : Bool) → a && b ≡ true → (a ≡ true) × (b ≡ true)
both_true true b h = (refl, h)
both_true false b h = cc

to_T : (b : Bool) → b ≡ true → T b
to_T true h = tt
to_T false h = cc

int_le-true : (x y : ℤ) → int_le x y ≡ true → x ≤ℤ y
int_le-true x y h = le_z_yes (to_T _ h)

IsBetween : ℤ → ℤ → ℤ → Type 0
IsBetween low high z = (low ≤ℤ z) × (z ≤ℤ high)

within_test : (low high z : ℤ) (b : Bool) → is_within low high z ≡ b → low ≤ℤ pos 0 → pos 0 ≤ℤ high
    → (low ≤ℤ unwrap_or (if b then Some z else None) (pos 0)) × (unwrap_or (if b then Some z else None) (pos 0) ≤ℤ high)
within_test low high z true h below above = let e = both_true _ _ h in (int_le-true low z e.0, int_le-true z high e.1)
within_test low high z false h below above = (below, above)

within_or_zero : (low high : ℤ) (o : Option ℤ) → low ≤ℤ pos 0 → pos 0 ≤ℤ high
    → (low ≤ℤ unwrap_or (number_within low high o) (pos 0)) × (unwrap_or (number_within low high o) (pos 0) ≤ℤ high)
within_or_zero low high None below above = (below, above)
within_or_zero low high (Some z) below above = within_test low high z (is_within low high z) refl below above

pub fix_in-range : (entry : List Row) (field : Field) (d : Data) → IsFix (number_in whole (neg_ℤ (pos 2147483648)) (pos 2147483647) entry field d)
unfolding number_in
fix_in-range entry field d = within_or_zero _ _ (given_number (fallback_in entry field) (option_map whole (member_at field d))) (le_z_yes tt) (le_z_yes tt)

pub time_in-range : (clock : Clock) (entry : List Row) (field : Field) (d : Data) → IsTime (number_in (frames clock) (neg_ℤ (pos 1099511627776)) (pos 1099511627776) entry field d)
unfolding number_in
time_in-range clock entry field d = within_or_zero _ _ (given_number (fallback_in entry field) (option_map (frames clock) (member_at field d))) (le_z_yes tt) (le_z_yes tt)

time_test : (z : ℤ) (b : Bool) → is_within (neg_ℤ (pos 1099511627776)) (pos 1099511627776) z ≡ b → IsTimeIfSome (if b then Some z else None)
time_test z true h = let e = both_true _ _ h in (int_le-true _ z e.0, int_le-true z _ e.1)
time_test z false h = tt

time_within : (o : Option ℤ) → IsTimeIfSome (number_within (neg_ℤ (pos 1099511627776)) (pos 1099511627776) o)
time_within None = tt
time_within (Some z) = time_test z _ refl

pub time_or_null_in-range : (clock : Clock) (field : Field) (d : Data) → IsTimeIfSome (time_or_null_in clock field d)
unfolding time_or_null_in
time_or_null_in-range clock field d = time_within (option_and_then (frames clock) (member_at field d))

count_of : (z : ℤ) → (pos 0 ≤ℤ z) × (z ≤ℤ pos 4294967295) → IsCount (nat_abs z)
count_of (pos n) h = omega (arith, ints, h.1)
count_of (negsuc n) h = absurd (omega (arith, ints, h.0))

pub count_in-range : (entry : List Row) (field : Field) (d : Data) → IsCount (count_in entry field d)
unfolding number_in
count_in-range entry field d = count_of _ (within_or_zero _ _ (given_number (fallback_in entry field) (option_map whole (member_at field d))) (le_z_yes tt) (le_z_yes tt))

count_test : (z : ℤ) (b : Bool) → is_within (pos 0) (pos 4294967295) z ≡ b → IsCountIfSome (option_map nat_abs (if b then Some z else None))
count_test z true h = let e = both_true _ _ h in count_of z (int_le-true _ z e.0, int_le-true z _ e.1)
count_test z false h = tt

count_within : (o : Option ℤ) → IsCountIfSome (option_map nat_abs (number_within (pos 0) (pos 4294967295) o))
count_within None = tt
count_within (Some z) = count_test z _ refl

pub count_or_null_in-range : (field : Field) (d : Data) → IsCountIfSome (count_or_null_in field d)
unfolding count_or_null_in
count_or_null_in-range field d = count_within (option_and_then whole (member_at field d))

new_name_test : (n : ℕ) (name : List ℕ) (b : Bool) → is_new_name name ≡ b → cause_faults n field.As (if b then None else Some OutOfRange) ≡ [] → is_new_name name ≡ true
new_name_test n name true h none = h
new_name_test n name false h none = cc

new_name_text : (n : ℕ) (o : Option (List ℕ)) → cause_faults n field.As (text_cause (option_map is_new_name o)) ≡ [] → IsNewName (unwrap_or o [])
new_name_text n None h = cc
new_name_text n (Some name) h = new_name_test n name _ refl h

new_name_member : (clock : Clock) (n : ℕ) (o : Option Data) → member_faults clock n (row field.As kind.NewName Needed) o ≡ [] → IsNewName (unwrap_or (option_and_then as_str o) [])
new_name_member clock n None h = cc
new_name_member clock n (Some d) h = new_name_text n (as_str d) h

pub text_in-new_name : (clock : Clock) (n : ℕ) (d : Data) → field_faults clock n d (row field.As kind.NewName Needed) ≡ [] → IsNewName (text_in field.As d)
unfolding text_in
text_in-new_name clock n d h = new_name_member clock n (member_at field.As d) h

path_test : (n : ℕ) (path : List ℕ) (b : Bool) → is_path path ≡ b → cause_faults n field.Path (if b then None else Some OutOfRange) ≡ [] → IsPath path
path_test n path true h none = let e = both_true _ _ h in (leb-true _ _ e.0, leb-true _ _ e.1)
path_test n path false h none = cc

path_text : (n : ℕ) (o : Option (List ℕ)) → cause_faults n field.Path (text_cause (option_map is_path o)) ≡ [] → IsPath (unwrap_or o [])
path_text n None h = cc
path_text n (Some path) h = path_test n path _ refl h

path_member : (clock : Clock) (n : ℕ) (o : Option Data) → member_faults clock n (row field.Path kind.Path Needed) o ≡ [] → IsPath (unwrap_or (option_and_then as_str o) [])
path_member clock n None h = cc
path_member clock n (Some d) h = path_text n (as_str d) h

pub text_in-path : (clock : Clock) (n : ℕ) (d : Data) → field_faults clock n d (row field.Path kind.Path Needed) ≡ [] → IsPath (text_in field.Path d)
unfolding text_in
text_in-path clock n d h = path_member clock n (member_at field.Path d) h

fixes_of-range : (ds : Items) → AreFixes (map fix_of (wholes ds))
fixes_of-range no_items = All-nil IsFix
fixes_of-range (item d ds) = All-cons IsFix _ _ (within_or_zero _ _ (whole d) (le_z_yes tt) (le_z_yes tt)) (fixes_of-range ds)

pub fixes_in-range : (field : Field) (d : Data) → AreFixes (fixes_in field d)
unfolding fixes_of
fixes_in-range field d = fixes_of-range (list_in field d)

fixes_given : (o : Option Items) → AreFixesIfSome (option_map fixes_of o)
unfolding fixes_of
fixes_given None = tt
fixes_given (Some ds) = fixes_of-range ds

pub fixes_or_null_in-range : (field : Field) (d : Data) → AreFixesIfSome (fixes_or_null_in field d)
unfolding fixes_or_null_in
fixes_or_null_in-range field d = fixes_given (option_and_then as_array (member_at field d))

-- each item of a program is in its range
instr_ranged : (i : Instr) → is_in_range i ≡ true → IsInstr i
instr_ranged instr.Input h = tt
instr_ranged (instr.Push v) h = let e = both_true _ _ h in (int_le-true _ v e.0, int_le-true v _ e.1)
instr_ranged (instr.Load k) h = leb-true k 2147483647 h
instr_ranged (instr.Store k) h = leb-true k 2147483647 h
instr_ranged instr.Add h = tt
instr_ranged instr.Sub h = tt
instr_ranged instr.Min h = tt
instr_ranged instr.Max h = tt
instr_ranged instr.Mul h = tt
instr_ranged instr.Neg h = tt
instr_ranged (instr.Div k) h = leb-true k 2147483647 h
instr_ranged instr.Dup h = tt
instr_ranged instr.Swap h = tt
instr_ranged instr.Discard h = tt
instr_ranged (instr.Skip k) h = leb-true k 2147483647 h
instr_ranged (instr.Skipz k) h = leb-true k 2147483647 h

instr_test : (i : Instr) (b : Bool) → is_in_range i ≡ b → IsInstr (if b then i else instr.Input)
instr_test i true h = instr_ranged i h
instr_test i false h = tt

instr_or_in-range : (o : Option Instr) → IsInstr (instr_or_in o)
instr_or_in-range None = tt
instr_or_in-range (Some i) = instr_test i (is_in_range i) refl

code_of-range : (ds : Items) → All IsInstr (map instr_or_in (instrs ds))
code_of-range no_items = All-nil IsInstr
code_of-range (item d ds) = All-cons IsInstr _ _ (instr_or_in-range (option_and_then instr_of (as_str d))) (code_of-range ds)

pub code_in-range : (field : Field) (d : Data) → All IsInstr (code_in field d)
unfolding code_of
code_in-range field d = code_of-range (list_in field d)
