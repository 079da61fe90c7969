-- The text of a script that was read nests no deeper than what was read.
use Rattle.std.proofs.Common.{◌≡◌, ◌≤◌, ℕ, suc, max, ℤ, List, [], ◌∷◌, ◌++◌, map, Bool, true, false, Option, Some, None, Ordering, Less, Equal, Greater, refl, sym, ap, ◌∙◌, arith}
use Rattle.std.specs.Prelude.{⊤, ◌||◌, is_some, option_map, option_and_then, if◌then◌else◌}
use Rattle.std.specs.Ordering.{nat_cmp, match_ordering}
use Rattle.std.specs.Cmp.Lexicographic.{slice_cmp}
use Rattle.serde_json.specs.Data.{Data, null, boolean, number, string, array, object, Items, no_items, item, Members, no_members, member, put, depth, items_depth, members_depth}
use Rattle.serde_json.specs.Find.{get, get_member, as_array}
use Rattle.serde_json.specs.View.{items_of}
use Rattle.node_table.specs.declared.code.Instr.{Instr}
use Rattle.script_ast.specs.Entries.{row, creation_of, creation_fields, fields_of}
use Rattle.script_ast.specs.Fields.{field_word}
use Rattle.script_ast.specs.Words.{instr_text}
use Rattle.script_ast.specs.declared.clocks.Clock.{Clock}
use Rattle.script_ast.specs.declared.entries.Fallback.TheVariants.{Needed}
use Rattle.script_ast.specs.declared.entries.Kind.TheVariants as kind
use Rattle.script_ast.specs.declared.entries.Creation.{Creation}
use Rattle.script_ast.specs.declared.entries.OpName.{OpName}
use Rattle.script_ast.specs.declared.entries.Row.{Row}
use Rattle.script_ast.specs.declared.fields.Field.{Field}
use Rattle.script_ast.specs.declared.fields.Field.TheVariants as field
use Rattle.script_ast.specs.declared.operations.Op.{Op}
use Rattle.script_ast.specs.declared.operations.Op.TheVariants as op
use Rattle.script_ast.specs.Holders.{holds_calls}
use Rattle.script_ast.specs.declared.entries.OpName.TheVariants as named
use Rattle.script_ast.specs.declared.param_ops.ParamOpName.{ParamOpName}
use Rattle.script_ast.specs.declared.param_ops.ParamOpName.TheVariants as param
use Rattle.script_fields.specs.Fields.{member_at, member_faults, field_faults, fields_faults, fixes_of, fixes_or_null_in}
use Rattle.script_fields.specs.declared.faults.ScriptErr.{ScriptErr}
use Rattle.script_json.proofs.CreationLaws.{is_read, is_written}
use Rattle.script_json.proofs.NumberRows.{number_rows, IsRowOf, AreRowsOf}
use Rattle.script_json.specs.Calls.{op_in, param_op_in}
use Rattle.script_json.specs.Creations.{kind_in, numbers_of}
use Rattle.script_json.specs.Numbers.{Number}
use Rattle.script_json.specs.Numbers as told
use Rattle.script_text.specs.Members.{or_null, fix, count, time, number_data, number_field, name_of, fields_given}
use Rattle.script_text.specs.Text.{with_fields, object_of, op_field, call_data}

-- ---- objects

either_depth : (o : Ordering) (a b c : Members) (n : ℕ) → members_depth a ≤ n → members_depth b ≤ n → members_depth c ≤ n → members_depth (match_ordering o a b c) ≤ n
either_depth Less a b c n p q r = p
either_depth Equal a b c n p q r = q
either_depth Greater a b c n p q r = r

put_depth : (k : List ℕ) (d : Data) (ms : Members) (n : ℕ) → depth d ≤ n → members_depth ms ≤ n → members_depth (put k d ms) ≤ n
put_depth k d no_members n p q = omega arith
put_depth k d (member l e ms) n p q =
    either_depth (slice_cmp nat_cmp k l) (member k d (member l e ms)) (member l d ms) (member l e (put k d ms)) n (omega arith) (omega arith) (omega (arith, put_depth k d ms n p (omega arith)))

-- the values of these members nest at most so deep
abbrev pub AreShallow : ℕ → List (Field × Data) → Type 0
AreShallow n [] = ⊤
AreShallow n (given ∷ rest) = (depth given.1 ≤ n) × AreShallow n rest

fields_depth : (n : ℕ) (given : List (Field × Data)) (ms : Members) → AreShallow n given → members_depth ms ≤ n → members_depth (with_fields given ms) ≤ n
fields_depth n [] ms h q = q
fields_depth n (given ∷ rest) ms h q = fields_depth n rest (put (field_word given.0) given.1 ms) h.1 (put_depth (field_word given.0) given.1 ms n h.0 q)

pub object_depth : (n : ℕ) (given : List (Field × Data)) → AreShallow n given → depth (object_of given) ≤ suc n
object_depth n given h = let none : 0 ≤ n = omega arith in let inner = fields_depth n given no_members h none in omega arith

-- ---- values

pub none : {n : ℕ} → 0 ≤ n
none = omega arith

at_most : {n : ℕ} → n ≤ n
at_most = omega arith

flat_text : (o : Option (List ℕ)) → depth (or_null string o) ≤ 0
flat_text None = omega arith
flat_text (Some s) = omega arith

flat_count : (o : Option ℕ) → depth (or_null count o) ≤ 0
flat_count None = omega arith
flat_count (Some n) = omega arith

flat_time : (rate : ℕ) (o : Option ℤ) → depth (or_null (time rate) o) ≤ 0
flat_time rate None = omega arith
flat_time rate (Some z) = omega arith

flat_fixes : (zs : List ℤ) → items_depth (items_of (map fix zs)) ≤ 0
flat_fixes [] = omega arith
flat_fixes (z ∷ zs) = omega (arith, flat_fixes zs)

flat_code : (program : List Instr) → items_depth (items_of (map (λ (i : Instr). string (instr_text i)) program)) ≤ 0
flat_code [] = omega arith
flat_code (i ∷ program) = omega (arith, flat_code program)

-- ---- operations

-- one of the numbers of a creation is a list
abbrev is_listed : Number → Bool
is_listed (told.fix z) = false
is_listed (told.count n) = false
is_listed (told.fixes zs) = true

abbrev are_listed : List (Field × Number) → Bool
are_listed [] = false
are_listed (given ∷ rest) = is_listed given.1 || are_listed rest

-- a call of the operation has a list that is no list of calls
abbrev pub has_list : Op → Bool
has_list (op.Create name kind) = are_listed (numbers_of kind)
has_list (op.CreateWaveShaper name curve oversample) = is_some curve
has_list (op.CreateProcessor name program) = true
has_list (op.SetCurve node curve) = is_some curve
has_list (op.CopyToChannel buffer channel samples at_frame) = true
has_list (op.SetValueCurveAtTime node parameter values time duration) = true
has_list other = false

-- how deep the calls nest that a call's text holds
abbrev pub held_depth : Items → ℕ
held_depth no_items = 0
held_depth (item d ds) = suc (items_depth (item d ds))

-- how deep the members of a call's text nest at most
abbrev base : Items → Op → ℕ
base held o = if holds_calls o then held_depth held else (if has_list o then 1 else 0)

-- the members of a call
abbrev given_of : ℕ → Items → Op → List (Field × Data)
given_of rate held o = op_field (name_of o) ++ fields_given rate held o

list_one : (zs : List ℤ) → suc (items_depth (items_of (map fix zs))) ≤ 1
list_one zs = omega (arith, flat_fixes zs)

code_one : (program : List Instr) → suc (items_depth (items_of (map (λ (i : Instr). string (instr_text i)) program))) ≤ 1
code_one program = omega (arith, flat_code program)

number_shallow : (n : ℕ) (x : Number) → (is_listed x ≡ true → 1 ≤ n) → depth (number_data x) ≤ n
number_shallow n (told.fix z) h = none
number_shallow n (told.count k) h = none
number_shallow n (told.fixes zs) h = let one = h refl in omega (arith, one, list_one zs)

first_listed : (a b : Bool) → a ≡ true → (a || b) ≡ true
first_listed true b h = refl
first_listed false b h = cc

later_listed : (a b : Bool) → b ≡ true → (a || b) ≡ true
later_listed true b h = refl
later_listed false b h = h

one_listed : (b : Bool) → b ≡ true → 1 ≤ (if b then 1 else 0)
one_listed true h = at_most
one_listed false h = cc

numbers_shallow : (n : ℕ) (numbers : List (Field × Number)) → (are_listed numbers ≡ true → 1 ≤ n) → AreShallow n (map number_field numbers)
numbers_shallow n [] h = tt
numbers_shallow n (given ∷ rest) h =
    (number_shallow n given.1 (λ is. h (first_listed (is_listed given.1) (are_listed rest) is)), numbers_shallow n rest (λ is. h (later_listed (is_listed given.1) (are_listed rest) is)))

name_shallow : (n : ℕ) (o : Option OpName) (given : List (Field × Data)) → AreShallow n given → AreShallow n (op_field o ++ given)
name_shallow n None given h = h
name_shallow n (Some name) given h = (none, h)

op_shallow : (rate : ℕ) (held : Items) (o : Op) → AreShallow (base held o) (given_of rate held o)
op_shallow rate held (op.Create name kind) =
    name_shallow _ (option_map named.Create (creation_of kind)) _ (none, numbers_shallow _ (numbers_of kind) (one_listed (are_listed (numbers_of kind))))
op_shallow rate held (op.CreateDelay name longest delayed) = (none, (none, (none, (none, tt))))
op_shallow rate held (op.CreateWaveShaper name None oversample) = (none, (none, (none, (none, tt))))
op_shallow rate held (op.CreateWaveShaper name (Some curve) oversample) = (none, (none, (list_one curve, (none, tt))))
op_shallow rate held (op.CreateConvolver name buffer plain) = (none, (none, (flat_text buffer, (none, tt))))
op_shallow rate held (op.CreateProcessor name program) = (none, (none, (code_one program, tt)))
op_shallow rate held (op.CreateBufferSource name buffer looping from to rate_of) = (none, (none, (flat_text buffer, (none, (none, (none, (none, tt)))))))
op_shallow rate held (op.CreateBuffer name channels frames buffer_rate) = (none, (none, (none, (none, (none, tt)))))
op_shallow rate held (op.Connect from output to input) = (none, (none, (none, (none, (none, tt)))))
op_shallow rate held (op.ConnectParam from output to parameter) = (none, (none, (none, (none, (none, tt)))))
op_shallow rate held (op.Disconnect from output to input) = (none, (none, (flat_count output, (flat_text to, (flat_count input, tt)))))
op_shallow rate held (op.DisconnectParam from to parameter output) = (none, (none, (none, (none, (flat_count output, tt)))))
op_shallow rate held (op.SetChannelCount node value) = (none, (none, (none, tt)))
op_shallow rate held (op.SetChannelCountMode node value) = (none, (none, (none, tt)))
op_shallow rate held (op.SetChannelInterpretation node value) = (none, (none, (none, tt)))
op_shallow rate held (op.SetCurve node None) = (none, (none, (none, tt)))
op_shallow rate held (op.SetCurve node (Some curve)) = (none, (none, (list_one curve, tt)))
op_shallow rate held (op.SetOversample node value) = (none, (none, (none, tt)))
op_shallow rate held (op.SetBuffer node buffer) = (none, (none, (flat_text buffer, tt)))
op_shallow rate held (op.SetLoop node value) = (none, (none, (none, tt)))
op_shallow rate held (op.SetLoopStart node value) = (none, (none, (none, tt)))
op_shallow rate held (op.SetLoopEnd node value) = (none, (none, (none, tt)))
op_shallow rate held (op.CopyToChannel buffer channel samples at_frame) = (none, (none, (none, (list_one samples, (none, tt)))))
op_shallow rate held (op.Start node when offset duration) = (none, (none, (none, (none, (flat_time rate duration, tt)))))
op_shallow rate held (op.Stop node when) = (none, (none, (none, tt)))
op_shallow rate held (op.SetValue node parameter value) = (none, (none, (none, (none, tt))))
op_shallow rate held (op.SetValueAtTime node parameter value time) = (none, (none, (none, (none, (none, tt)))))
op_shallow rate held (op.LinearRampToValueAtTime node parameter value time) = (none, (none, (none, (none, (none, tt)))))
op_shallow rate held (op.SetValueCurveAtTime node parameter values time duration) = (none, (none, (none, (list_one values, (none, (none, tt))))))
op_shallow rate held (op.CancelScheduledValues node parameter time) = (none, (none, (none, (none, tt))))
op_shallow rate held (op.CancelAndHoldAtTime node parameter time) = (none, (none, (none, (none, tt))))
op_shallow rate held (op.SetAutomationRate node parameter value) = (none, (none, (none, (none, tt))))
op_shallow rate held (op.ExponentialRampToValueAtTime node parameter) = (none, (none, (none, tt)))
op_shallow rate held (op.SetTargetAtTime node parameter) = (none, (none, (none, tt)))
op_shallow rate held (op.ReadValue node parameter) = (none, (none, (none, tt)))
op_shallow rate no_items (op.Suspend time) = (none, (none, tt))
op_shallow rate (item d ds) (op.Suspend time) = (none, (none, (at_most, tt)))
op_shallow rate no_items op.StartRendering = (none, tt)
op_shallow rate (item d ds) op.StartRendering = (none, (at_most, tt))
op_shallow rate held op.Resume = (none, tt)
op_shallow rate held (op.DecodeAudioData name path) = (none, (none, (none, tt)))
op_shallow rate held op.ReadState = (none, tt)
op_shallow rate held op.ReadTime = (none, tt)
op_shallow rate held (op.LeftOut name) = (none, tt)

-- the text of a call
pub call_depth : (rate : ℕ) (held : Items) (o : Op) → depth (call_data rate held o) ≤ suc (base held o)
call_depth rate held o = object_depth (base held o) (given_of rate held o) (op_shallow rate held o)

-- ---- what was read

pub both_none : (xs ys : List ScriptErr) → xs ++ ys ≡ [] → (xs ≡ []) × (ys ≡ [])
both_none [] ys h = (refl, h)
both_none (x ∷ xs) ys h = cc

-- an array
abbrev is_list : Option Data → Bool
is_list o = is_some (option_and_then as_array o)

found_one : (o : Ordering) (e : Data) (rest : Option Data) (m : ℕ) → (is_list rest ≡ true → 1 ≤ m) → is_list (match_ordering o rest (Some e) rest) ≡ true → 1 ≤ max (depth e) m
found_one Less e rest m later h = let l = later h in omega arith
found_one Equal (array ds) rest m later h = omega arith
found_one Equal null rest m later h = cc
found_one Equal (boolean b) rest m later h = cc
found_one Equal (number x) rest m later h = cc
found_one Equal (string s) rest m later h = cc
found_one Equal (object ms) rest m later h = cc
found_one Greater e rest m later h = let l = later h in omega arith

member_one : (key : List ℕ) (ms : Members) → is_list (get_member key ms) ≡ true → 1 ≤ members_depth ms
member_one key no_members h = cc
member_one key (member k e ms) h = found_one (slice_cmp nat_cmp key k) e (get_member key ms) (members_depth ms) (member_one key ms) h

-- a value with a list nests at least two deep
two_deep : (key : List ℕ) (d : Data) → is_list (get key d) ≡ true → 2 ≤ depth d
two_deep key null h = cc
two_deep key (boolean b) h = cc
two_deep key (number x) h = cc
two_deep key (string s) h = cc
two_deep key (array ds) h = cc
two_deep key (object ms) h = omega (arith, member_one key ms h)

fixes_there : (clock : Clock) (n : ℕ) (f : Field) (o : Option Data) → member_faults clock n (row f kind.Fixes Needed) o ≡ [] → is_list o ≡ true
fixes_there clock n f None h = cc
fixes_there clock n f (Some null) h = cc
fixes_there clock n f (Some (boolean b)) h = cc
fixes_there clock n f (Some (number x)) h = cc
fixes_there clock n f (Some (string s)) h = cc
fixes_there clock n f (Some (array ds)) h = refl
fixes_there clock n f (Some (object ms)) h = cc

code_there : (clock : Clock) (n : ℕ) (f : Field) (o : Option Data) → member_faults clock n (row f kind.Code Needed) o ≡ [] → is_list o ≡ true
code_there clock n f None h = cc
code_there clock n f (Some null) h = cc
code_there clock n f (Some (boolean b)) h = cc
code_there clock n f (Some (number x)) h = cc
code_there clock n f (Some (string s)) h = cc
code_there clock n f (Some (array ds)) h = refl
code_there clock n f (Some (object ms)) h = cc

mapped_some : (o : Option Items) → is_some (option_map fixes_of o) ≡ true → is_some o ≡ true
mapped_some None h = cc
mapped_some (Some ds) h = refl

curve_there : (f : Field) (d : Data) → is_some (fixes_or_null_in f d) ≡ true → is_list (member_at f d) ≡ true
unfolding fixes_or_null_in
curve_there f d h = mapped_some (option_and_then as_array (member_at f d)) h

-- a call that is read with a list has one
listed_param : (clock : Clock) (n : ℕ) (d : Data) (name : ParamOpName) → fields_faults clock n d (fields_of (named.Param name)) ≡ [] → has_list (param_op_in clock name d) ≡ true → 2 ≤ depth d
listed_param clock n d param.SetValue h is = cc
listed_param clock n d param.SetValueAtTime h is = cc
listed_param clock n d param.LinearRampToValueAtTime h is = cc
listed_param clock n d param.CancelScheduledValues h is = cc
listed_param clock n d param.CancelAndHoldAtTime h is = cc
listed_param clock n d param.SetAutomationRate h is = cc
listed_param clock n d param.ExponentialRampToValueAtTime h is = cc
listed_param clock n d param.SetTargetAtTime h is = cc
listed_param clock n d param.ReadValue h is = cc
listed_param clock n d param.SetValueCurveAtTime h is =
    two_deep (field_word field.Values) d (fixes_there clock n field.Values (member_at field.Values d) (both_none _ _ (both_none _ _ (both_none _ _ h).1).1).0)

row_listed : (clock : Clock) (n : ℕ) (d : Data) (of : Row) (f : Field) (x : Number) (b : Bool) → IsRowOf of f x → field_faults clock n d of ≡ [] → (b ≡ true → 2 ≤ depth d)
    → (is_listed x || b) ≡ true → 2 ≤ depth d
row_listed clock n d of f (told.fix z) b is none_here later h = later h
row_listed clock n d of f (told.count k) b is none_here later h = later h
row_listed clock n d of f (told.fixes zs) b is none_here later h = two_deep (field_word f) d (fixes_there clock n f (member_at f d) (ap (field_faults clock n d) (sym is) ∙ none_here))

rows_listed : (clock : Clock) (n : ℕ) (d : Data) (rows : List Row) (numbers : List (Field × Number)) → AreRowsOf rows numbers → fields_faults clock n d rows ≡ [] → are_listed numbers ≡ true
    → 2 ≤ depth d
rows_listed clock n d [] [] are h is = cc
rows_listed clock n d [] (given ∷ rest) are h is = absurd are
rows_listed clock n d (of ∷ rows) [] are h is = cc
rows_listed clock n d (of ∷ rows) (given ∷ rest) are h is =
    let both = both_none _ _ h in
    row_listed clock n d of given.0 given.1 (are_listed rest) are.0 both.0 (rows_listed clock n d rows rest are.1 both.1) is

listed_creation : (clock : Clock) (n : ℕ) (d : Data) (name : Creation) → fields_faults clock n d (creation_fields name) ≡ [] → are_listed (numbers_of (kind_in name d)) ≡ true → 2 ≤ depth d
listed_creation clock n d name h is =
    let read = is_read name d in
    let written = is_written (kind_in name d) (ap is_some read.makes) read.range in
    let named : Some written.name ≡ Some name = sym written.makes ∙ read.makes in
    let same : written.name ≡ name = cc in
    let none_here : fields_faults clock n d (row field.As kind.NewName Needed ∷ number_rows name) ≡ [] = ap (fields_faults clock n d) (sym read.entry) ∙ h in
    rows_listed clock n d (number_rows name) (numbers_of (kind_in name d)) (rw same at written.rows) (both_none _ _ none_here).1 is

pub listed : (clock : Clock) (n : ℕ) (d : Data) (name : OpName) → fields_faults clock n d (fields_of name) ≡ [] → has_list (op_in clock name d) ≡ true → 2 ≤ depth d
listed clock n d (named.Create name) h is = listed_creation clock n d name h is
listed clock n d named.CreateWaveShaper h is = two_deep (field_word field.Curve) d (curve_there field.Curve d is)
listed clock n d named.SetCurve h is = two_deep (field_word field.Curve) d (curve_there field.Curve d is)
listed clock n d named.CreateProcessor h is = two_deep (field_word field.Code) d (code_there clock n field.Code (member_at field.Code d) (both_none _ _ (both_none _ _ h).1).0)
listed clock n d named.CopyToChannel h is = two_deep (field_word field.Samples) d (fixes_there clock n field.Samples (member_at field.Samples d) (both_none _ _ (both_none _ _ (both_none _ _ h).1).1).0)
listed clock n d (named.Param name) h is = listed_param clock n d name h is
listed clock n d named.CreateDelay h is = cc
listed clock n d named.CreateConvolver h is = cc
listed clock n d named.CreateBufferSource h is = cc
listed clock n d named.CreateBuffer h is = cc
listed clock n d named.Connect h is = cc
listed clock n d named.ConnectParam h is = cc
listed clock n d named.Disconnect h is = cc
listed clock n d named.DisconnectParam h is = cc
listed clock n d named.SetChannelCount h is = cc
listed clock n d named.SetChannelCountMode h is = cc
listed clock n d named.SetChannelInterpretation h is = cc
listed clock n d named.SetOversample h is = cc
listed clock n d named.SetBuffer h is = cc
listed clock n d named.SetLoop h is = cc
listed clock n d named.SetLoopStart h is = cc
listed clock n d named.SetLoopEnd h is = cc
listed clock n d named.Start h is = cc
listed clock n d named.Stop h is = cc
listed clock n d named.Suspend h is = cc
listed clock n d named.StartRendering h is = cc
listed clock n d named.Resume h is = cc
listed clock n d named.DecodeAudioData h is = cc
listed clock n d named.ReadState h is = cc
listed clock n d named.ReadTime h is = cc
listed clock n d (named.LeftOut name) h is = cc
