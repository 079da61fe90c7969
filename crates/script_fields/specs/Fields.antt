-- The members of a call, of a script or of its context, by the rows of its entry: their faults, and their values.
use Rattle.std.specs.Prelude.{ℕ, List, [], ◌∷◌, flat_map, map, Bool, true, false, not, ◌&&◌, if◌then◌else◌, ℤ, pos, neg_ℤ, nat_abs, Option, Some, None, option_and_then, option_map, unwrap_or, is_some}
use Rattle.serde_json.specs.Data.{Data, Items, no_items}
use Rattle.serde_json.specs.Find.{get, as_array, as_bool, as_null, as_str}
use Rattle.wa_base.specs.declared.graph_names.Mode.{Mode}
use Rattle.wa_base.specs.declared.graph_names.Mode.TheVariants.{Max}
use Rattle.wa_base.specs.declared.graph_names.Interp.{Interp}
use Rattle.wa_base.specs.declared.graph_names.Interp.TheVariants.{Speakers}
use Rattle.wa_base.specs.declared.graph_names.Rate.{Rate}
use Rattle.wa_base.specs.declared.graph_names.Rate.TheVariants.{A}
use Rattle.node_table.specs.declared.code.Instr.{Instr}
use Rattle.script_ast.specs.Fallbacks.{fallback_in}
use Rattle.script_ast.specs.declared.clocks.Clock.{Clock}
use Rattle.script_ast.specs.declared.entries.Row.{Row}
use Rattle.script_ast.specs.declared.entries.Fallback.{Fallback}
use Rattle.script_ast.specs.declared.entries.Fallback.TheVariants.{Needed, Null, Number, Count, Flag, Oversample as OversampleFallback, NoCalls}
use Rattle.script_ast.specs.declared.fields.Field.{Field}
use Rattle.script_ast.specs.Fields.{field_word}
use Rattle.script_ast.specs.Words.{mode_named, interp_named, rate_named, oversample_named}
use Rattle.script_ast.specs.declared.operations.Oversample.{Oversample}
use Rattle.script_ast.specs.declared.operations.Oversample.TheVariants.{Off}
use Rattle.script_fields.specs.Instructions.{code_of}
use Rattle.script_fields.specs.Values.{whole, wholes, frames, is_within, cause_of}
use Rattle.script_fields.specs.declared.faults.ScriptErr.{ScriptErr}
use Rattle.script_fields.specs.declared.faults.ScriptErr.TheVariants as fault
use Rattle.script_fields.specs.declared.values.Cause.{Cause}
use Rattle.script_fields.specs.declared.values.Cause.TheVariants.{WrongKind, OutOfRange}

-- the member with a field's name
abbrev pub member_at : Field → Data → Option Data
member_at field d = get (field_word field) d

-- whether a member is there, where null counts as absent
abbrev pub is_given : Option Data → Bool
is_given None = false
is_given (Some d) = not (is_some (as_null d))

-- whether a field is there, where null counts as absent
abbrev pub is_there : Field → Data → Bool
is_there field d = is_given (member_at field d)

-- ---- faults

-- a field that has no default has to be there
abbrev pub is_needed : Fallback → Bool
is_needed Needed = true
is_needed Null = false
is_needed (Number z) = false
is_needed (Count n) = false
is_needed (Flag b) = false
is_needed (OversampleFallback o) = false
is_needed NoCalls = false

-- a field whose default is null may hold null
abbrev pub takes_null : Fallback → Bool
takes_null Needed = false
takes_null Null = true
takes_null (Number z) = false
takes_null (Count n) = false
takes_null (Flag b) = false
takes_null (OversampleFallback o) = false
takes_null NoCalls = false

-- the fault of a field whose value may not stand in it
abbrev pub cause_faults : ℕ → Field → Option Cause → List ScriptErr
cause_faults n field None = []
cause_faults n field (Some WrongKind) = fault.WrongKind n field ∷ []
cause_faults n field (Some OutOfRange) = fault.OutOfRange n field ∷ []

-- the faults of a field that holds this value, or is absent
abbrev pub member_faults : Clock → ℕ → Row → Option Data → List ScriptErr
member_faults clock n row None = if is_needed row.fallback then fault.MissingField n row.field ∷ [] else []
member_faults clock n row (Some d) = if takes_null row.fallback && is_some (as_null d) then [] else cause_faults n row.field (cause_of clock row.kind d)

-- the faults of one field of the call n
abbrev pub field_faults : Clock → ℕ → Data → Row → List ScriptErr
field_faults clock n d row = member_faults clock n row (member_at row.field d)

-- the faults of the fields of the call n, in the order of the rows
abbrev pub fields_faults : Clock → ℕ → Data → List Row → List ScriptErr
fields_faults clock n d rows = flat_map (field_faults clock n d) rows

-- the fault of a field of the call n that has to be there, where null counts as absent
abbrev pub lack_faults : ℕ → Data → Field → List ScriptErr
lack_faults n d field = if is_there field d then [] else fault.MissingField n field ∷ []

-- ---- values: of a field without a fault. Where it has one a value stands too, as 0 or an empty list, and nothing rests on it

-- the default that is a number
abbrev pub default_number : Fallback → Option ℤ
default_number Needed = None
default_number Null = None
default_number (Number z) = Some z
default_number (Count n) = Some (pos n)
default_number (Flag b) = None
default_number (OversampleFallback o) = None
default_number NoCalls = None

-- the default that is true or false
abbrev pub default_flag : Fallback → Bool
default_flag Needed = false
default_flag Null = false
default_flag (Number z) = false
default_flag (Count n) = false
default_flag (Flag b) = b
default_flag (OversampleFallback o) = false
default_flag NoCalls = false

-- the default that is an oversampling
abbrev pub default_oversample : Fallback → Oversample
default_oversample Needed = Off
default_oversample Null = Off
default_oversample (Number z) = Off
default_oversample (Count n) = Off
default_oversample (Flag b) = Off
default_oversample (OversampleFallback o) = o
default_oversample NoCalls = Off

-- a number from low to high
abbrev pub number_within : ℤ → ℤ → Option ℤ → Option ℤ
number_within low high None = None
number_within low high (Some z) = if is_within low high z then Some z else None

-- the number that a member is read as, or the default where the member is absent
abbrev pub given_number : Fallback → Option (Option ℤ) → Option ℤ
given_number fallback None = default_number fallback
given_number fallback (Some number) = number

-- the number, from low to high, that a field of an entry is read as
unfoldable pub number_in : (Data → Option ℤ) → ℤ → ℤ → List Row → Field → Data → ℤ
number_in reading low high entry field d = unwrap_or (number_within low high (given_number (fallback_in entry field) (option_map reading (member_at field d)))) (pos 0)

-- the value of a field of an entry, in units of 2^-24
abbrev pub fix_in : List Row → Field → Data → ℤ
fix_in entry field d = number_in whole (neg_ℤ (pos 2147483648)) (pos 2147483647) entry field d

-- the number of frames of a field of an entry
abbrev pub time_in : Clock → List Row → Field → Data → ℤ
time_in clock entry field d = number_in (frames clock) (neg_ℤ (pos 1099511627776)) (pos 1099511627776) entry field d

-- the number of frames of a field that may be null; none where it is null or absent
unfoldable pub time_or_null_in : Clock → Field → Data → Option ℤ
time_or_null_in clock field d = number_within (neg_ℤ (pos 1099511627776)) (pos 1099511627776) (option_and_then (frames clock) (member_at field d))

-- the count of a field of an entry
abbrev pub count_in : List Row → Field → Data → ℕ
count_in entry field d = nat_abs (number_in whole (pos 0) (pos 4294967295) entry field d)

-- the count of a field that may be null; none where it is null or absent
unfoldable pub count_or_null_in : Field → Data → Option ℕ
count_or_null_in field d = option_map nat_abs (number_within (pos 0) (pos 4294967295) (option_and_then whole (member_at field d)))

-- whether a field of an entry is true: its own value, or the default where it has none
unfoldable pub flag_in : List Row → Field → Data → Bool
flag_in entry field d = unwrap_or (option_and_then as_bool (member_at field d)) (default_flag (fallback_in entry field))

-- the list of a field
abbrev pub list_in : Field → Data → Items
list_in field d = unwrap_or (option_and_then as_array (member_at field d)) no_items

-- the value that an item of a list is, in units of 2^-24
abbrev pub fix_of : Option ℤ → ℤ
fix_of number = unwrap_or (number_within (neg_ℤ (pos 2147483648)) (pos 2147483647) number) (pos 0)

-- the values of the items of an array, in their order
unfoldable pub fixes_of : Items → List ℤ
fixes_of ds = map fix_of (wholes ds)

-- the values of a field that is a list of them
abbrev pub fixes_in : Field → Data → List ℤ
fixes_in field d = fixes_of (list_in field d)

-- the values of a field that may be null; none where it is null or absent
unfoldable pub fixes_or_null_in : Field → Data → Option (List ℤ)
fixes_or_null_in field d = option_map fixes_of (option_and_then as_array (member_at field d))

-- the program of a field
abbrev pub code_in : Field → Data → List Instr
code_in field d = code_of (list_in field d)

-- the text of a field
unfoldable pub text_in : Field → Data → List ℕ
text_in field d = unwrap_or (option_and_then as_str (member_at field d)) []

-- the text of a field that may be null; none where it is null or absent
unfoldable pub text_or_null_in : Field → Data → Option (List ℕ)
text_or_null_in field d = option_and_then as_str (member_at field d)

-- the ChannelCountMode of a field
unfoldable pub mode_in : Field → Data → Mode
mode_in field d = unwrap_or (option_and_then mode_named (option_and_then as_str (member_at field d))) Max

-- the ChannelInterpretation of a field
unfoldable pub interp_in : Field → Data → Interp
interp_in field d = unwrap_or (option_and_then interp_named (option_and_then as_str (member_at field d))) Speakers

-- the AutomationRate of a field
unfoldable pub rate_in : Field → Data → Rate
rate_in field d = unwrap_or (option_and_then rate_named (option_and_then as_str (member_at field d))) A

-- the OverSampleType of a field of an entry: that of its word, or the default where it has none
unfoldable pub oversample_in : List Row → Field → Data → Oversample
oversample_in entry field d = unwrap_or (option_and_then oversample_named (option_and_then as_str (member_at field d))) (default_oversample (fallback_in entry field))
