-- Each kind of value has no fault in a field of its kind, and is read as it was.
use Rattle.std.proofs.Common.{◌≡◌, ◌≤◌, ◌&&◌, ℕ, ℤ, pos, negsuc, neg_ℤ, List, [], ◌∷◌, length, map, Bool, true, false, Option, Some, None, refl, ap, ◌∙◌, arith, le-leb}
use Rattle.std.specs.Prelude.{All, nat_abs, is_some, option_map, option_and_then, unwrap_or, if◌then◌else◌}
use Rattle.std.specs.List.{list_all}
use Rattle.std.proofs.lemmas.List.Elements.{All-head, All-tail}
use Rattle.serde_json.specs.Data.{Data, string, boolean}
use Rattle.serde_json.specs.Find.{as_null}
use Rattle.serde_json.specs.View.{items_of}
use Rattle.wa_base.specs.GraphNames.{mode_word, interp_word, rate_word}
use Rattle.wa_base.specs.Numbers.{IsFix}
use Rattle.wa_base.specs.declared.graph_names.Mode.{Mode}
use Rattle.wa_base.specs.declared.graph_names.Mode.TheVariants.{Max, ClampedMax, Explicit}
use Rattle.wa_base.specs.declared.graph_names.Interp.{Interp}
use Rattle.wa_base.specs.declared.graph_names.Interp.TheVariants.{Speakers, Discrete}
use Rattle.wa_base.specs.declared.graph_names.Rate.{Rate}
use Rattle.wa_base.specs.declared.graph_names.Rate.TheVariants.{A, K}
use Rattle.node_table.specs.declared.code.Instr.{Instr}
use Rattle.script_ast.specs.Entries.{row}
use Rattle.script_ast.specs.Ranges.{IsTime, IsTimeIfSome, IsCount, IsCountIfSome, AreFixes, AreFixesIfSome, IsNewName, IsPath, IsInstr}
use Rattle.script_ast.specs.Words.{mode_named, interp_named, rate_named, oversample_named, oversample_word}
use Rattle.script_ast.specs.declared.clocks.Clock.{Clock}
use Rattle.script_ast.specs.declared.clocks.Clock.TheVariants.{Seconds}
use Rattle.script_ast.specs.declared.entries.Fallback.{Fallback}
use Rattle.script_ast.specs.declared.entries.Fallback.TheVariants.{Needed, Null}
use Rattle.script_ast.specs.declared.entries.Kind.{Kind}
use Rattle.script_ast.specs.declared.entries.Kind.TheVariants as kind
use Rattle.script_ast.specs.declared.fields.Field.{Field}
use Rattle.script_ast.specs.declared.fields.Field.TheVariants as field
use Rattle.script_ast.specs.declared.operations.Oversample.{Oversample}
use Rattle.script_ast.specs.declared.operations.Oversample.TheVariants.{Off, Two, Four}
use Rattle.script_fields.specs.Fields.{member_faults, cause_faults, takes_null, number_within, fix_of, fixes_of}
use Rattle.script_fields.specs.Values.{cause_of, whole, wholes, frames, is_within, is_fix, number_cause, fixes_cause}
use Rattle.script_fields.specs.declared.faults.ScriptErr.{ScriptErr}
use Rattle.script_fields.specs.declared.values.Cause.{Cause}
use Rattle.script_fields.specs.declared.values.Cause.TheVariants.{OutOfRange}
use Rattle.script_text.specs.Members.{or_null, fix, fixes, count, time, code}
use Rattle.script_text.proofs.Law.Instrs.{true_from_T, within_fix, code_fine}
use Rattle.script_text.proofs.Law.Seconds.{time_back}

-- ---- numbers

abbrev pub least_fix : ℤ
least_fix = neg_ℤ (pos 2147483648)

abbrev pub most_fix : ℤ
most_fix = pos 2147483647

abbrev least_time : ℤ
least_time = neg_ℤ (pos 1099511627776)

abbrev most_time : ℤ
most_time = pos 1099511627776

abbrev pub most_count : ℤ
most_count = pos 4294967295

no_cause : (low high z : ℤ) (o : Option ℤ) → o ≡ Some z → is_within low high z ≡ true → number_cause low high o ≡ None
no_cause low high z o is within = ap (number_cause low high) is ∙ ap (λ (b : Bool). if b then None else Some OutOfRange) within

its_value : (low high z : ℤ) (o : Option ℤ) → o ≡ Some z → is_within low high z ≡ true → number_within low high o ≡ Some z
its_value low high z o is within = ap (number_within low high) is ∙ ap (λ (b : Bool). if b then Some z else None) within

whole_fix : (z : ℤ) → whole (fix z) ≡ Some z
whole_fix (pos n) = refl
whole_fix (negsuc n) = refl

both_true : (a b : Bool) → a ≡ true → b ≡ true → (a && b) ≡ true
both_true a b p q = rw (p, q) refl

within_time : (z : ℤ) → IsTime z → is_within least_time most_time z ≡ true
within_time z h = both_true _ _ (true_from_T _ h.0.le) (true_from_T _ h.1.le)

within_count : (n : ℕ) → IsCount n → is_within (pos 0) most_count (pos n) ≡ true
within_count n h = let least : 0 ≤ n = omega arith in both_true _ _ (le-leb 0 n least) (le-leb n _ h)

-- ---- faults

abbrev none : List ScriptErr
none = []

no_fault : (b : Bool) → (if b then none else none) ≡ none
no_fault true = refl
no_fault false = refl

given : (clock : Clock) (n : ℕ) (f : Field) (k : Kind) (fallback : Fallback) (d : Data) → cause_of clock k d ≡ None → member_faults clock n (row f k fallback) (Some d) ≡ []
given clock n f k fallback d h =
    ap (λ (c : Option Cause). if takes_null fallback && is_some (as_null d) then [] else cause_faults n f c) h ∙ no_fault (takes_null fallback && is_some (as_null d))

pub fix_fine : (clock : Clock) (n : ℕ) (f : Field) (fallback : Fallback) (z : ℤ) → IsFix z → member_faults clock n (row f kind.Fix fallback) (Some (fix z)) ≡ []
fix_fine clock n f fallback z h = given clock n f kind.Fix fallback (fix z) (no_cause least_fix most_fix z _ (whole_fix z) (within_fix z h))

pub time_fine : (rate n : ℕ) (f : Field) (fallback : Fallback) (z : ℤ) → 8000 ≤ rate → rate ≤ 96000 → IsTime z
    → member_faults (Seconds rate) n (row f kind.Time fallback) (Some (time rate z)) ≡ []
time_fine rate n f fallback z low high h = given (Seconds rate) n f kind.Time fallback (time rate z) (no_cause least_time most_time z _ (time_back rate z low high h) (within_time z h))

pub time_or_null_fine : (rate n : ℕ) (f : Field) (o : Option ℤ) → 8000 ≤ rate → rate ≤ 96000 → IsTimeIfSome o
    → member_faults (Seconds rate) n (row f kind.Time Null) (Some (or_null (time rate) o)) ≡ []
time_or_null_fine rate n f None low high h = refl
time_or_null_fine rate n f (Some z) low high h = time_fine rate n f Null z low high h

pub count_fine : (clock : Clock) (n : ℕ) (f : Field) (fallback : Fallback) (k : ℕ) → IsCount k → member_faults clock n (row f kind.Count fallback) (Some (count k)) ≡ []
count_fine clock n f fallback k h = given clock n f kind.Count fallback (count k) (no_cause (pos 0) most_count (pos k) _ refl (within_count k h))

pub count_or_null_fine : (clock : Clock) (n : ℕ) (f : Field) (o : Option ℕ) → IsCountIfSome o → member_faults clock n (row f kind.Count Null) (Some (or_null count o)) ≡ []
count_or_null_fine clock n f None h = refl
count_or_null_fine clock n f (Some k) h = count_fine clock n f Null k h

pub name_fine : (clock : Clock) (n : ℕ) (f : Field) (fallback : Fallback) (s : List ℕ) → member_faults clock n (row f kind.Name fallback) (Some (string s)) ≡ []
name_fine clock n f fallback s = given clock n f kind.Name fallback (string s) refl

pub name_null_fine : (clock : Clock) (n : ℕ) (f : Field) (o : Option (List ℕ)) → member_faults clock n (row f kind.Name Null) (Some (or_null string o)) ≡ []
name_null_fine clock n f None = refl
name_null_fine clock n f (Some s) = name_fine clock n f Null s

pub name_or_null_fine : (clock : Clock) (n : ℕ) (f : Field) (o : Option (List ℕ)) → member_faults clock n (row f kind.NameOrNull Needed) (Some (or_null string o)) ≡ []
name_or_null_fine clock n f None = refl
name_or_null_fine clock n f (Some s) = refl

pub new_name_fine : (clock : Clock) (n : ℕ) (s : List ℕ) → IsNewName s → member_faults clock n (row field.As kind.NewName Needed) (Some (string s)) ≡ []
new_name_fine clock n s h = given clock n field.As kind.NewName Needed (string s) (ap (λ (b : Bool). if b then None else Some OutOfRange) h)

pub path_fine : (clock : Clock) (n : ℕ) (s : List ℕ) → IsPath s → member_faults clock n (row field.Path kind.Path Needed) (Some (string s)) ≡ []
path_fine clock n s h =
    given clock n field.Path kind.Path Needed (string s) (ap (λ (b : Bool). if b then None else Some OutOfRange) (both_true _ _ (le-leb 1 (length s) h.0) (le-leb (length s) 255 h.1)))

pub flag_fine : (clock : Clock) (n : ℕ) (f : Field) (fallback : Fallback) (b : Bool) → member_faults clock n (row f kind.Flag fallback) (Some (boolean b)) ≡ []
flag_fine clock n f fallback b = given clock n f kind.Flag fallback (boolean b) refl

pub mode_fine : (clock : Clock) (n : ℕ) (f : Field) (m : Mode) → member_faults clock n (row f kind.Mode Needed) (Some (string (mode_word m))) ≡ []
unfolding mode_named
mode_fine clock n f Max = refl
mode_fine clock n f ClampedMax = refl
mode_fine clock n f Explicit = refl

pub interp_fine : (clock : Clock) (n : ℕ) (f : Field) (m : Interp) → member_faults clock n (row f kind.Interp Needed) (Some (string (interp_word m))) ≡ []
unfolding interp_named
interp_fine clock n f Speakers = refl
interp_fine clock n f Discrete = refl

pub rate_fine : (clock : Clock) (n : ℕ) (f : Field) (m : Rate) → member_faults clock n (row f kind.Rate Needed) (Some (string (rate_word m))) ≡ []
unfolding rate_named
rate_fine clock n f A = refl
rate_fine clock n f K = refl

oversample_cause : (clock : Clock) (o : Oversample) → cause_of clock kind.Oversample (string (oversample_word o)) ≡ None
unfolding oversample_named
oversample_cause clock Off = refl
oversample_cause clock Two = refl
oversample_cause clock Four = refl

pub oversample_fine : (clock : Clock) (n : ℕ) (f : Field) (fallback : Fallback) (o : Oversample) → member_faults clock n (row f kind.Oversample fallback) (Some (string (oversample_word o))) ≡ []
oversample_fine clock n f fallback o = given clock n f kind.Oversample fallback (string (oversample_word o)) (oversample_cause clock o)

-- ---- lists

wholes_fixes : (zs : List ℤ) → wholes (items_of (map fix zs)) ≡ map Some zs
wholes_fixes [] = refl
wholes_fixes (z ∷ zs) = λ t. whole_fix z t ∷ wholes_fixes zs t

all_some : {X : Type 0} → (xs : List X) → list_all is_some (map Some xs) ≡ true
all_some [] = refl
all_some (x ∷ xs) = all_some xs

all_fix : (zs : List ℤ) → AreFixes zs → list_all is_fix (map Some zs) ≡ true
all_fix [] h = refl
all_fix (z ∷ zs) h = both_true _ _ (within_fix z (All-head IsFix z zs h)) (all_fix zs (All-tail IsFix z zs h))

fixes_no_cause : (zs : List ℤ) → AreFixes zs → fixes_cause (Some (wholes (items_of (map fix zs)))) ≡ None
fixes_no_cause zs h = rw (wholes_fixes zs, all_some zs, all_fix zs h) refl

pub fixes_fine : (clock : Clock) (n : ℕ) (f : Field) (fallback : Fallback) (zs : List ℤ) → AreFixes zs → member_faults clock n (row f kind.Fixes fallback) (Some (fixes zs)) ≡ []
fixes_fine clock n f fallback zs h = given clock n f kind.Fixes fallback (fixes zs) (fixes_no_cause zs h)

pub fixes_null_fine : (clock : Clock) (n : ℕ) (f : Field) (o : Option (List ℤ)) → AreFixesIfSome o → member_faults clock n (row f kind.Fixes Null) (Some (or_null fixes o)) ≡ []
fixes_null_fine clock n f None h = refl
fixes_null_fine clock n f (Some zs) h = fixes_fine clock n f Null zs h

pub fixes_or_null_fine : (clock : Clock) (n : ℕ) (f : Field) (o : Option (List ℤ)) → AreFixesIfSome o → member_faults clock n (row f kind.FixesOrNull Needed) (Some (or_null fixes o)) ≡ []
fixes_or_null_fine clock n f None h = refl
fixes_or_null_fine clock n f (Some zs) h = given clock n f kind.FixesOrNull Needed (fixes zs) (fixes_no_cause zs h)

pub code_member_fine : (clock : Clock) (n : ℕ) (f : Field) (program : List Instr) → All IsInstr program → member_faults clock n (row f kind.Code Needed) (Some (code program)) ≡ []
code_member_fine clock n f program h = given clock n f kind.Code Needed (code program) (code_fine program h)

-- ---- values

pub fix_value : (z : ℤ) → IsFix z → unwrap_or (number_within least_fix most_fix (whole (fix z))) (pos 0) ≡ z
fix_value z h = ap (λ (o : Option ℤ). unwrap_or o (pos 0)) (its_value least_fix most_fix z _ (whole_fix z) (within_fix z h))

pub time_value : (rate : ℕ) (z : ℤ) → 8000 ≤ rate → rate ≤ 96000 → IsTime z → unwrap_or (number_within least_time most_time (frames (Seconds rate) (time rate z))) (pos 0) ≡ z
time_value rate z low high h = ap (λ (o : Option ℤ). unwrap_or o (pos 0)) (its_value least_time most_time z _ (time_back rate z low high h) (within_time z h))

pub time_or_null_value : (rate : ℕ) (o : Option ℤ) → 8000 ≤ rate → rate ≤ 96000 → IsTimeIfSome o
    → number_within least_time most_time (option_and_then (frames (Seconds rate)) (Some (or_null (time rate) o))) ≡ o
time_or_null_value rate None low high h = refl
time_or_null_value rate (Some z) low high h = its_value least_time most_time z _ (time_back rate z low high h) (within_time z h)

pub count_value : (n : ℕ) → IsCount n → nat_abs (unwrap_or (number_within (pos 0) most_count (whole (count n))) (pos 0)) ≡ n
count_value n h = ap (λ (o : Option ℤ). nat_abs (unwrap_or o (pos 0))) (its_value (pos 0) most_count (pos n) _ refl (within_count n h))

pub count_or_null_value : (o : Option ℕ) → IsCountIfSome o → option_map nat_abs (number_within (pos 0) most_count (option_and_then whole (Some (or_null count o)))) ≡ o
count_or_null_value None h = refl
count_or_null_value (Some n) h = ap (option_map nat_abs) (its_value (pos 0) most_count (pos n) _ refl (within_count n h))

fix_of_each : (zs : List ℤ) → AreFixes zs → map fix_of (map Some zs) ≡ zs
fix_of_each [] h = refl
fix_of_each (z ∷ zs) h =
    let this : fix_of (Some z) ≡ z = ap (λ (b : Bool). unwrap_or (if b then Some z else None) (pos 0)) (within_fix z (All-head IsFix z zs h)) in
    λ t. this t ∷ fix_of_each zs (All-tail IsFix z zs h) t

pub fixes_value : (zs : List ℤ) → AreFixes zs → fixes_of (items_of (map fix zs)) ≡ zs
unfolding fixes_of
fixes_value zs h = ap (map fix_of) (wholes_fixes zs) ∙ fix_of_each zs h
