-- The kinds of fields: which JSON values each takes, and why it takes no other.
use Rattle.std.specs.Prelude.{List, Bool, [], ◌∷◌, false, ◌&&◌, ◌||◌, if◌then◌else◌, ℤ, pos, neg_ℤ, int_le, Option, Some, None, option_and_then, option_map, is_some}
use Rattle.std.specs.List.{list_all}
use Rattle.serde_json.specs.Data.{Data, Items, no_items, item}
use Rattle.serde_json.specs.Find.{as_integer, as_number, as_bool, as_null, as_str, as_array, as_object}
use Rattle.script_ast.specs.declared.clocks.Clock.{Clock}
use Rattle.script_ast.specs.declared.clocks.Clock.TheVariants.{Frames, Seconds}
use Rattle.script_ast.specs.declared.entries.Kind.{Kind}
use Rattle.script_ast.specs.declared.entries.Kind.TheVariants as kind
use Rattle.script_ast.specs.Ranges.{is_new_name, is_path}
use Rattle.script_ast.specs.Words.{mode_named, interp_named, rate_named, oversample_named}
use Rattle.script_fields.specs.Instructions.{instrs, code_cause}
use Rattle.script_fields.specs.Seconds.{frames_of_seconds}
use Rattle.script_fields.specs.declared.values.Cause.{Cause}
use Rattle.script_fields.specs.declared.values.Cause.TheVariants.{WrongKind, OutOfRange}

-- the whole number that a value is: none with a fraction or an exponent, past 64 bits, or `-0`
abbrev pub whole : Data → Option ℤ
whole d = option_and_then as_integer (as_number d)

-- the number of frames that a value stands for on a clock: a whole number of frames, or a text of seconds
abbrev pub frames : Clock → Data → Option ℤ
frames Frames d = whole d
frames (Seconds rate) d = option_and_then (frames_of_seconds rate) (as_str d)

-- z lies from low to high
abbrev pub is_within : ℤ → ℤ → ℤ → Bool
is_within low high z = int_le low z && int_le z high

-- a whole number from low to high
abbrev pub number_cause : ℤ → ℤ → Option ℤ → Option Cause
number_cause low high None = Some WrongKind
number_cause low high (Some z) = if is_within low high z then None else Some OutOfRange

-- the items of an array, each as the whole number that it is
abbrev pub wholes : Items → List (Option ℤ)
wholes no_items = []
wholes (item d ds) = whole d ∷ wholes ds

-- a whole number from -2^31 to 2^31 - 1
abbrev pub is_fix : Option ℤ → Bool
is_fix None = false
is_fix (Some z) = is_within (neg_ℤ (pos 2147483648)) (pos 2147483647) z

-- an array of whole numbers that are all in range; an item that is no whole number is told before one that is out of range, wherever they stand
abbrev pub fixes_cause : Option (List (Option ℤ)) → Option Cause
fixes_cause None = Some WrongKind
fixes_cause (Some numbers) = if list_all is_some numbers then (if list_all is_fix numbers then None else Some OutOfRange) else Some WrongKind

-- such an array, or null
abbrev pub fixes_or_null_cause : Data → Option Cause
fixes_or_null_cause d = if is_some (as_null d) then None else fixes_cause (option_map wholes (as_array d))

-- a text that is in range, or is not
abbrev pub text_cause : Option Bool → Option Cause
text_cause None = Some WrongKind
text_cause (Some holds) = if holds then None else Some OutOfRange

-- a text that is one of a list of words; what it names is given, if it names anything
abbrev pub word_cause : {A : Type 0} → Option (Option A) → Option Cause
word_cause None = Some WrongKind
word_cause (Some None) = Some OutOfRange
word_cause (Some (Some named)) = None

-- any value of one kind of JSON
abbrev pub kind_cause : Bool → Option Cause
kind_cause holds = if holds then None else Some WrongKind

-- why a value may not stand in a field of the kind, with times on this clock; none where it may
abbrev pub cause_of : Clock → Kind → Data → Option Cause
cause_of clock kind.Fix d = number_cause (neg_ℤ (pos 2147483648)) (pos 2147483647) (whole d)
cause_of clock kind.Time d = number_cause (neg_ℤ (pos 1099511627776)) (pos 1099511627776) (frames clock d)
cause_of clock kind.Count d = number_cause (pos 0) (pos 4294967295) (whole d)
cause_of clock kind.Version d = number_cause (pos 1) (pos 2) (whole d)
cause_of clock kind.Name d = kind_cause (is_some (as_str d))
cause_of clock kind.NameOrNull d = kind_cause (is_some (as_str d) || is_some (as_null d))
cause_of clock kind.NewName d = text_cause (option_map is_new_name (as_str d))
cause_of clock kind.Flag d = kind_cause (is_some (as_bool d))
cause_of clock kind.Fixes d = fixes_cause (option_map wholes (as_array d))
cause_of clock kind.FixesOrNull d = fixes_or_null_cause d
cause_of clock kind.Path d = text_cause (option_map is_path (as_str d))
cause_of clock kind.Code d = code_cause (option_map instrs (as_array d))
cause_of clock kind.Mode d = word_cause (option_map mode_named (as_str d))
cause_of clock kind.Interp d = word_cause (option_map interp_named (as_str d))
cause_of clock kind.Rate d = word_cause (option_map rate_named (as_str d))
cause_of clock kind.Oversample d = word_cause (option_map oversample_named (as_str d))
cause_of clock kind.Calls d = kind_cause (is_some (as_array d))
cause_of clock kind.Object d = kind_cause (is_some (as_object d))
