-- The text of each operation's call is kept as it is.
use Rattle.std.proofs.Common.{◌≡◌, ◌<◌, ◌/◌, ◌%◌, ◌+◌, ◌==◌, ℕ, zero, suc, ℤ, pos, negsuc, List, [], ◌∷◌, ◌++◌, map, Bool, true, false, Option, Some, None, IsUtf8, decimal, refl, sym, subst, arith}
use Rattle.std.specs.Prelude.{⊤, All, codes, option_map, nat_abs, nat_lt, int_lt, if◌then◌else◌}
use Rattle.std.specs.List.{list_all}
use Rattle.std.proofs.lemmas.Bool.{and_parts}
use Rattle.std.specs.Fmt.{sign_text, signed_decimal, digit_glyph, digits_onto, digits}
use Rattle.std.proofs.lemmas.Fmt.{IsAscii-from_digits, IsAscii-decimal}
use Rattle.std.specs.Str.{IsAscii}
use Rattle.std.proofs.lemmas.Int.{ints}
use Rattle.std.proofs.lemmas.List.Elements.{All-head, All-tail}
use Rattle.std.proofs.lemmas.Str.{IsUtf8-append, IsUtf8-nil, IsUtf8-from_ascii, IsUtf8-from_is_utf8}
use Rattle.json.proofs.Printed.Utf8.{are_ascii, IsUtf8-are_ascii}
use Rattle.serde_json.specs.Data.{Data, string, Items, no_items, item, Members, no_members, put}
use Rattle.serde_json.specs.View.{items_of}
use Rattle.wa_base.specs.GraphNames.{mode_word, interp_word, rate_word}
use Rattle.wa_base.specs.Numbers.{IsFix}
use Rattle.wa_base.specs.declared.graph_names.Mode.{Mode}
use Rattle.wa_base.specs.declared.graph_names.Mode.TheVariants.{Max, ClampedMax, Explicit}
use Rattle.wa_base.specs.declared.graph_names.Interp.{Interp}
use Rattle.wa_base.specs.declared.graph_names.Interp.TheVariants.{Speakers, Discrete}
use Rattle.wa_base.specs.declared.graph_names.Rate.{Rate}
use Rattle.wa_base.specs.declared.graph_names.Rate.TheVariants.{A, K}
use Rattle.node_table.specs.declared.code.Instr.{Instr}
use Rattle.node_table.specs.declared.code.Instr.TheVariants as instr
use Rattle.node_table.specs.declared.kinds.Kind.{Kind}
use Rattle.script_ast.proofs.Texts.{new_name_is_text}
use Rattle.script_ast.specs.Entries.{creation_word, creation_of}
use Rattle.script_ast.specs.Fields.{field_word}
use Rattle.script_ast.specs.Operations.{IsInRange}
use Rattle.script_ast.specs.Ranges.{IsCount, IsCountIfSome, IsText, IsTextIfSome, AreFixes, AreFixesIfSome, IsNewName, IsInstr}
use Rattle.script_ast.specs.Words.{instr_text, oversample_word}
use Rattle.script_ast.specs.declared.entries.OpName.TheVariants as named
use Rattle.script_ast.specs.declared.fields.Field.{Field}
use Rattle.script_ast.specs.declared.fields.Field.TheVariants as field
use Rattle.script_ast.specs.declared.left_out.LeftOutName.TheVariants as left_out
use Rattle.script_ast.specs.declared.operations.Op.{Op}
use Rattle.script_ast.specs.declared.operations.Op.TheVariants as op
use Rattle.script_ast.specs.declared.operations.Oversample.{Oversample}
use Rattle.script_ast.specs.declared.operations.Oversample.TheVariants.{Off, Two, Four}
use Rattle.script_json.proofs.CreationLaws.{is_written}
use Rattle.script_json.proofs.NumberRows.{IsNumber, AreNumbers}
use Rattle.script_json.specs.Creations.{numbers_of}
use Rattle.script_json.specs.Numbers.{Number}
use Rattle.script_json.specs.Numbers as told
use Rattle.script_text.specs.Members.{or_null, fix, fixes, count, time, code, number_data, number_field, name_of, fields_given}
use Rattle.script_text.specs.Seconds.{last_digits, seconds_text, time_text, billionths}
use Rattle.script_text.specs.Text.{with_fields, object_of, op_field, call_data}
use Rattle.script_text.proofs.Law.Json.{IsKept, AreKeptItems, AreKeptMembers, kept_put}
use Rattle.script_text.proofs.Law.Objects.{fields_rebuilt}
use Rattle.script_text.proofs.Law.Seconds.{last_digits_are}

-- ---- objects

field_utf8 : (f : Field) → IsUtf8 (field_word f)
field_utf8 field.Version = IsUtf8-are_ascii _ refl
field_utf8 field.Context = IsUtf8-are_ascii _ refl
field_utf8 field.Channels = IsUtf8-are_ascii _ refl
field_utf8 field.Length = IsUtf8-are_ascii _ refl
field_utf8 field.Rate = IsUtf8-are_ascii _ refl
field_utf8 field.RenderQuantum = IsUtf8-are_ascii _ refl
field_utf8 field.Calls = IsUtf8-are_ascii _ refl
field_utf8 field.Op = IsUtf8-are_ascii _ refl
field_utf8 field.Then = IsUtf8-are_ascii _ refl
field_utf8 field.Script = IsUtf8-are_ascii _ refl
field_utf8 field.Call = IsUtf8-are_ascii _ refl
field_utf8 field.As = IsUtf8-are_ascii _ refl
field_utf8 field.Offset = IsUtf8-are_ascii _ refl
field_utf8 field.Gain = IsUtf8-are_ascii _ refl
field_utf8 field.MaxDelayTime = IsUtf8-are_ascii _ refl
field_utf8 field.DelayTime = IsUtf8-are_ascii _ refl
field_utf8 field.NumberOfOutputs = IsUtf8-are_ascii _ refl
field_utf8 field.NumberOfInputs = IsUtf8-are_ascii _ refl
field_utf8 field.Curve = IsUtf8-are_ascii _ refl
field_utf8 field.Oversample = IsUtf8-are_ascii _ refl
field_utf8 field.Feedforward = IsUtf8-are_ascii _ refl
field_utf8 field.Feedback = IsUtf8-are_ascii _ refl
field_utf8 field.Buffer = IsUtf8-are_ascii _ refl
field_utf8 field.DisableNormalization = IsUtf8-are_ascii _ refl
field_utf8 field.Code = IsUtf8-are_ascii _ refl
field_utf8 field.Loop = IsUtf8-are_ascii _ refl
field_utf8 field.LoopStart = IsUtf8-are_ascii _ refl
field_utf8 field.LoopEnd = IsUtf8-are_ascii _ refl
field_utf8 field.PlaybackRate = IsUtf8-are_ascii _ refl
field_utf8 field.From = IsUtf8-are_ascii _ refl
field_utf8 field.Output = IsUtf8-are_ascii _ refl
field_utf8 field.To = IsUtf8-are_ascii _ refl
field_utf8 field.Input = IsUtf8-are_ascii _ refl
field_utf8 field.Param = IsUtf8-are_ascii _ refl
field_utf8 field.Node = IsUtf8-are_ascii _ refl
field_utf8 field.Value = IsUtf8-are_ascii _ refl
field_utf8 field.Channel = IsUtf8-are_ascii _ refl
field_utf8 field.Samples = IsUtf8-are_ascii _ refl
field_utf8 field.At = IsUtf8-are_ascii _ refl
field_utf8 field.When = IsUtf8-are_ascii _ refl
field_utf8 field.Duration = IsUtf8-are_ascii _ refl
field_utf8 field.Time = IsUtf8-are_ascii _ refl
field_utf8 field.Values = IsUtf8-are_ascii _ refl
field_utf8 field.Path = IsUtf8-are_ascii _ refl

-- the values of these members are kept
abbrev pub AreGivenKept : List (Field × Data) → Type 0
AreGivenKept [] = ⊤
AreGivenKept (given ∷ rest) = IsKept given.1 × AreGivenKept rest

kept_fields : (given : List (Field × Data)) (ms : Members) → AreGivenKept given → AreKeptMembers ms → AreKeptMembers (with_fields given ms)
kept_fields [] ms h k = k
kept_fields (given ∷ rest) ms h k = kept_fields rest (put (field_word given.0) given.1 ms) h.1 (kept_put (field_word given.0) given.1 ms (field_utf8 given.0) h.0 k)

pub kept_object : (given : List (Field × Data)) → AreGivenKept given → IsKept (object_of given)
kept_object given h = (fields_rebuilt given, kept_fields given no_members h tt)

-- ---- values

text_kept : (s : List ℕ) → IsText s → IsUtf8 s
text_kept s h = IsUtf8-from_is_utf8 s h

new_name_kept : (s : List ℕ) → IsNewName s → IsUtf8 s
new_name_kept s h = IsUtf8-from_is_utf8 s (new_name_is_text s h)

text_or_null_kept : (o : Option (List ℕ)) → IsTextIfSome o → IsKept (or_null string o)
text_or_null_kept None h = tt
text_or_null_kept (Some s) h = text_kept s h

fix_kept : (z : ℤ) → IsFix z → IsKept (fix z)
fix_kept (pos n) h = omega (arith, ints, h.1)
fix_kept (negsuc n) h = omega (arith, ints, h.0)

pub count_kept : (n : ℕ) → IsCount n → IsKept (count n)
count_kept n h = omega arith

count_or_null_kept : (o : Option ℕ) → IsCountIfSome o → IsKept (or_null count o)
count_or_null_kept None h = tt
count_or_null_kept (Some n) h = count_kept n h

fixes_kept : (zs : List ℤ) → AreFixes zs → AreKeptItems (items_of (map fix zs))
fixes_kept [] h = tt
fixes_kept (z ∷ zs) h = (fix_kept z (All-head IsFix z zs h), fixes_kept zs (All-tail IsFix z zs h))

number_kept : (x : Number) → IsNumber x → IsKept (number_data x)
number_kept (told.fix z) h = fix_kept z h
number_kept (told.count n) h = count_kept n h
number_kept (told.fixes zs) h = fixes_kept zs h

fixes_or_null_kept : (o : Option (List ℤ)) → AreFixesIfSome o → IsKept (or_null fixes o)
fixes_or_null_kept None h = tt
fixes_or_null_kept (Some zs) h = fixes_kept zs h

ascii_too : (text : List ℕ) → list_all (λ c. nat_lt c 128) text ≡ true → are_ascii text ≡ true
ascii_too [] h = refl
ascii_too (c ∷ text) h = let both = and_parts (nat_lt c 128) (list_all (λ x. nat_lt x 128) text) h in rw both.0 (ascii_too text both.1)

word_kept : (text : List ℕ) → list_all (λ c. nat_lt c 128) text ≡ true → IsUtf8 text
word_kept text h = IsUtf8-are_ascii text (ascii_too text h)

mode_kept : (m : Mode) → IsUtf8 (mode_word m)
mode_kept Max = IsUtf8-are_ascii _ refl
mode_kept ClampedMax = IsUtf8-are_ascii _ refl
mode_kept Explicit = IsUtf8-are_ascii _ refl

interp_kept : (m : Interp) → IsUtf8 (interp_word m)
interp_kept Speakers = IsUtf8-are_ascii _ refl
interp_kept Discrete = IsUtf8-are_ascii _ refl

rate_kept : (m : Rate) → IsUtf8 (rate_word m)
rate_kept A = IsUtf8-are_ascii _ refl
rate_kept K = IsUtf8-are_ascii _ refl

oversample_kept : (o : Oversample) → IsUtf8 (oversample_word o)
oversample_kept Off = IsUtf8-are_ascii _ refl
oversample_kept Two = IsUtf8-are_ascii _ refl
oversample_kept Four = IsUtf8-are_ascii _ refl

sign_utf8 : (b : Bool) → IsUtf8 (sign_text b)
sign_utf8 true = IsUtf8-are_ascii _ refl
sign_utf8 false = IsUtf8-nil

glyph_below : (b : Bool) (d : ℕ) → d < 10 → (if b then 48 + d else 87 + d) < 128
glyph_below true d h = omega arith
glyph_below false d h = omega arith

one_ascii : (x : ℕ) → x < 128 → IsAscii (x ∷ [])
one_ascii x h zero = h
one_ascii x h (suc i) = omega arith

glyph_utf8 : (n : ℕ) → IsUtf8 (digit_glyph false (n % 10) ∷ [])
glyph_utf8 n = IsUtf8-from_ascii _ (one_ascii (digit_glyph false (n % 10)) (glyph_below (nat_lt (n % 10) 10) (n % 10) (omega arith)))

either_utf8 : (b : Bool) (xs ys : List ℕ) → IsUtf8 xs → IsUtf8 ys → IsUtf8 (if b then xs else ys)
either_utf8 true xs ys p q = p
either_utf8 false xs ys p q = q

onto_utf8 : (k n : ℕ) (acc : List ℕ) → IsUtf8 acc → IsUtf8 (digits_onto k 10 false n acc)
onto_utf8 zero n acc u = u
onto_utf8 (suc k) n acc u =
    let more = IsUtf8-append (digit_glyph false (n % 10) ∷ []) acc (glyph_utf8 n) u in
    either_utf8 (n / 10 == 0) (digit_glyph false (n % 10) ∷ acc) (digits_onto k 10 false (n / 10) (digit_glyph false (n % 10) ∷ acc)) more
    (onto_utf8 k (n / 10) (digit_glyph false (n % 10) ∷ acc) more)

decimal_utf8 : (n : ℕ) → IsUtf8 (decimal n)
unfolding digits
decimal_utf8 n = onto_utf8 64 n [] IsUtf8-nil

seconds_utf8 : (z : ℤ) → IsUtf8 (seconds_text z)
seconds_utf8 z =
    IsUtf8-append (sign_text (int_lt z (pos 0)) ++ decimal (nat_abs z / 1000000000)) (46 ∷ last_digits 9 (nat_abs z % 1000000000))
    (IsUtf8-append (sign_text (int_lt z (pos 0))) (decimal (nat_abs z / 1000000000)) (sign_utf8 (int_lt z (pos 0))) (decimal_utf8 (nat_abs z / 1000000000)))
    (IsUtf8-append (46 ∷ []) (last_digits 9 (nat_abs z % 1000000000)) (IsUtf8-are_ascii _ refl) (IsUtf8-from_ascii _ (IsAscii-from_digits _ (last_digits_are 9 (nat_abs z % 1000000000)))))

time_kept : (rate : ℕ) (z : ℤ) → IsUtf8 (time_text rate z)
unfolding time_text
time_kept rate z = seconds_utf8 (billionths rate z)

time_or_null_kept : (rate : ℕ) (o : Option ℤ) → IsKept (or_null (time rate) o)
time_or_null_kept rate None = tt
time_or_null_kept rate (Some z) = time_kept rate z

signed_utf8 : (z : ℤ) → IsFix z → IsUtf8 (signed_decimal z)
signed_utf8 (pos n) h = IsUtf8-from_ascii _ (IsAscii-decimal n (omega (arith, ints, h.1)))
signed_utf8 (negsuc n) h = IsUtf8-append (45 ∷ []) _ (IsUtf8-are_ascii _ refl) (IsUtf8-from_ascii _ (IsAscii-decimal (suc n) (omega (arith, ints, h.0))))

instr_utf8 : (i : Instr) → IsInstr i → IsUtf8 (instr_text i)
instr_utf8 instr.Input h = IsUtf8-are_ascii _ refl
instr_utf8 (instr.Push v) h = IsUtf8-append (codes "push ") _ (IsUtf8-are_ascii _ refl) (signed_utf8 v h)
instr_utf8 (instr.Load k) h = IsUtf8-append (codes "load ") _ (IsUtf8-are_ascii _ refl) (IsUtf8-from_ascii _ (IsAscii-decimal k (omega arith)))
instr_utf8 (instr.Store k) h = IsUtf8-append (codes "store ") _ (IsUtf8-are_ascii _ refl) (IsUtf8-from_ascii _ (IsAscii-decimal k (omega arith)))
instr_utf8 (instr.Div k) h = IsUtf8-append (codes "div ") _ (IsUtf8-are_ascii _ refl) (IsUtf8-from_ascii _ (IsAscii-decimal k (omega arith)))
instr_utf8 (instr.Skip k) h = IsUtf8-append (codes "skip ") _ (IsUtf8-are_ascii _ refl) (IsUtf8-from_ascii _ (IsAscii-decimal k (omega arith)))
instr_utf8 (instr.Skipz k) h = IsUtf8-append (codes "skipz ") _ (IsUtf8-are_ascii _ refl) (IsUtf8-from_ascii _ (IsAscii-decimal k (omega arith)))
instr_utf8 instr.Add h = IsUtf8-are_ascii _ refl
instr_utf8 instr.Sub h = IsUtf8-are_ascii _ refl
instr_utf8 instr.Min h = IsUtf8-are_ascii _ refl
instr_utf8 instr.Max h = IsUtf8-are_ascii _ refl
instr_utf8 instr.Mul h = IsUtf8-are_ascii _ refl
instr_utf8 instr.Neg h = IsUtf8-are_ascii _ refl
instr_utf8 instr.Dup h = IsUtf8-are_ascii _ refl
instr_utf8 instr.Swap h = IsUtf8-are_ascii _ refl
instr_utf8 instr.Discard h = IsUtf8-are_ascii _ refl

code_kept : (program : List Instr) → All IsInstr program → IsKept (code program)
code_kept [] h = tt
code_kept (i ∷ program) h = (instr_utf8 i (All-head IsInstr i program h), code_kept program (All-tail IsInstr i program h))

-- ---- operations

-- the members of a call
abbrev given_of : ℕ → Items → Op → List (Field × Data)
given_of rate held o = op_field (name_of o) ++ fields_given rate held o

numbers_kept : (numbers : List (Field × Number)) → AreNumbers numbers → AreGivenKept (map number_field numbers)
numbers_kept [] h = tt
numbers_kept (given ∷ rest) h = (number_kept given.1 h.0, numbers_kept rest h.1)

-- a creation has the word of its name, the new node's name, and its numbers
creation_kept : (name : List ℕ) (made : Kind) → IsInRange (op.Create name made) → AreGivenKept (op_field (option_map named.Create (creation_of made)) ++ (field.As, string name) ∷ map number_field (numbers_of made))
creation_kept name made h =
    let is = is_written made h.3 h.2 in
    subst (λ o. AreGivenKept (op_field (option_map named.Create o) ++ (field.As, string name) ∷ map number_field (numbers_of made))) (sym is.makes) (
      word_kept (creation_word is.name) is.ascii,
      (new_name_kept name h.0, numbers_kept (numbers_of made) is.range),
    )

module _ (rate : ℕ) where
  given_kept : (held : Items) (o : Op) → IsInRange o → AreKeptItems held → AreGivenKept (given_of rate held o)
  given_kept held (op.Create name kind) h k = creation_kept name kind h
  given_kept held (op.CreateDelay name longest delayed) h k = (IsUtf8-are_ascii _ refl, (new_name_kept name h.0, (fix_kept longest h.1, (fix_kept delayed h.2, tt))))
  given_kept held (op.CreateWaveShaper name curve oversample) h k = (IsUtf8-are_ascii _ refl, (new_name_kept name h.0, (fixes_or_null_kept curve h.1, (oversample_kept oversample, tt))))
  given_kept held (op.CreateConvolver name buffer plain) h k = (IsUtf8-are_ascii _ refl, (new_name_kept name h.0, (text_or_null_kept buffer h.1, (tt, tt))))
  given_kept held (op.CreateProcessor name program) h k = (IsUtf8-are_ascii _ refl, (new_name_kept name h.0, (code_kept program h.1, tt)))
  given_kept held (op.CreateBufferSource name buffer looping from to rate_of) h k = (IsUtf8-are_ascii _ refl, (new_name_kept name h.0, (text_or_null_kept buffer h.4, (tt, (time_kept rate from, (time_kept rate to, (fix_kept rate_of h.3, tt)))))))
  given_kept held (op.CreateBuffer name channels frames buffer_rate) h k = (IsUtf8-are_ascii _ refl, (new_name_kept name h.0, (count_kept channels h.1, (count_kept frames h.2, (count_kept buffer_rate h.3, tt)))))
  given_kept held (op.Connect from output to input) h k = (IsUtf8-are_ascii _ refl, (text_kept from h.2, (count_kept output h.0, (text_kept to h.3, (count_kept input h.1, tt)))))
  given_kept held (op.ConnectParam from output to parameter) h k = (IsUtf8-are_ascii _ refl, (text_kept from h.1, (count_kept output h.0, (text_kept to h.2, (text_kept parameter h.3, tt)))))
  given_kept held (op.Disconnect from output to input) h k = (IsUtf8-are_ascii _ refl, (text_kept from h.3, (count_or_null_kept output h.0, (text_or_null_kept to h.4, (count_or_null_kept input h.1, tt)))))
  given_kept held (op.DisconnectParam from to parameter output) h k = (IsUtf8-are_ascii _ refl, (text_kept from h.1, (text_kept to h.2, (text_kept parameter h.3, (count_or_null_kept output h.0, tt)))))
  given_kept held (op.SetChannelCount node value) h k = (IsUtf8-are_ascii _ refl, (text_kept node h.1, (count_kept value h.0, tt)))
  given_kept held (op.SetChannelCountMode node value) h k = (IsUtf8-are_ascii _ refl, (text_kept node h, (mode_kept value, tt)))
  given_kept held (op.SetChannelInterpretation node value) h k = (IsUtf8-are_ascii _ refl, (text_kept node h, (interp_kept value, tt)))
  given_kept held (op.SetCurve node curve) h k = (IsUtf8-are_ascii _ refl, (text_kept node h.1, (fixes_or_null_kept curve h.0, tt)))
  given_kept held (op.SetOversample node value) h k = (IsUtf8-are_ascii _ refl, (text_kept node h, (oversample_kept value, tt)))
  given_kept held (op.SetBuffer node buffer) h k = (IsUtf8-are_ascii _ refl, (text_kept node h.0, (text_or_null_kept buffer h.1, tt)))
  given_kept held (op.SetLoop node value) h k = (IsUtf8-are_ascii _ refl, (text_kept node h, (tt, tt)))
  given_kept held (op.SetLoopStart node value) h k = (IsUtf8-are_ascii _ refl, (text_kept node h.1, (time_kept rate value, tt)))
  given_kept held (op.SetLoopEnd node value) h k = (IsUtf8-are_ascii _ refl, (text_kept node h.1, (time_kept rate value, tt)))
  given_kept held (op.CopyToChannel buffer channel samples at_frame) h k = (IsUtf8-are_ascii _ refl, (text_kept buffer h.3, (count_kept channel h.0, (fixes_kept samples h.1, (count_kept at_frame h.2, tt)))))
  given_kept held (op.Start node when offset duration) h k = (IsUtf8-are_ascii _ refl, (text_kept node h.3, (time_kept rate when, (time_kept rate offset, (time_or_null_kept rate duration, tt)))))
  given_kept held (op.Stop node when) h k = (IsUtf8-are_ascii _ refl, (text_kept node h.1, (time_kept rate when, tt)))
  given_kept held (op.SetValue node parameter value) h k = (IsUtf8-are_ascii _ refl, (text_kept node h.1, (text_kept parameter h.2, (fix_kept value h.0, tt))))
  given_kept held (op.SetValueAtTime node parameter value time) h k = (IsUtf8-are_ascii _ refl, (text_kept node h.2, (text_kept parameter h.3, (fix_kept value h.0, (time_kept rate time, tt)))))
  given_kept held (op.LinearRampToValueAtTime node parameter value time) h k = (IsUtf8-are_ascii _ refl, (text_kept node h.2, (text_kept parameter h.3, (fix_kept value h.0, (time_kept rate time, tt)))))
  given_kept held (op.SetValueCurveAtTime node parameter values time duration) h k = (IsUtf8-are_ascii _ refl, (text_kept node h.3, (text_kept parameter h.4, (fixes_kept values h.0, (time_kept rate time, (time_kept rate duration, tt))))))
  given_kept held (op.CancelScheduledValues node parameter time) h k = (IsUtf8-are_ascii _ refl, (text_kept node h.1, (text_kept parameter h.2, (time_kept rate time, tt))))
  given_kept held (op.CancelAndHoldAtTime node parameter time) h k = (IsUtf8-are_ascii _ refl, (text_kept node h.1, (text_kept parameter h.2, (time_kept rate time, tt))))
  given_kept held (op.SetAutomationRate node parameter value) h k = (IsUtf8-are_ascii _ refl, (text_kept node h.0, (text_kept parameter h.1, (rate_kept value, tt))))
  given_kept held (op.ExponentialRampToValueAtTime node parameter) h k = (IsUtf8-are_ascii _ refl, (text_kept node h.0, (text_kept parameter h.1, tt)))
  given_kept held (op.SetTargetAtTime node parameter) h k = (IsUtf8-are_ascii _ refl, (text_kept node h.0, (text_kept parameter h.1, tt)))
  given_kept held (op.ReadValue node parameter) h k = (IsUtf8-are_ascii _ refl, (text_kept node h.0, (text_kept parameter h.1, tt)))
  given_kept no_items (op.Suspend time) h k = (IsUtf8-are_ascii _ refl, (time_kept rate time, tt))
  given_kept (item d ds) (op.Suspend time) h k = (IsUtf8-are_ascii _ refl, (time_kept rate time, (k, tt)))
  given_kept no_items op.StartRendering h k = (IsUtf8-are_ascii _ refl, tt)
  given_kept (item d ds) op.StartRendering h k = (IsUtf8-are_ascii _ refl, (k, tt))
  given_kept held op.Resume h k = (IsUtf8-are_ascii _ refl, tt)
  given_kept held (op.DecodeAudioData name path) h k = (IsUtf8-are_ascii _ refl, (new_name_kept name h.0, (text_kept path h.2, tt)))
  given_kept held op.ReadState h k = (IsUtf8-are_ascii _ refl, tt)
  given_kept held op.ReadTime h k = (IsUtf8-are_ascii _ refl, tt)
  given_kept held (op.LeftOut left_out.CreateOscillator) h k = (IsUtf8-are_ascii _ refl, tt)
  given_kept held (op.LeftOut left_out.CreatePeriodicWave) h k = (IsUtf8-are_ascii _ refl, tt)
  given_kept held (op.LeftOut left_out.CreateBiquadFilter) h k = (IsUtf8-are_ascii _ refl, tt)
  given_kept held (op.LeftOut left_out.CreateStereoPanner) h k = (IsUtf8-are_ascii _ refl, tt)
  given_kept held (op.LeftOut left_out.CreatePanner) h k = (IsUtf8-are_ascii _ refl, tt)
  given_kept held (op.LeftOut left_out.CreateDynamicsCompressor) h k = (IsUtf8-are_ascii _ refl, tt)
  given_kept held (op.LeftOut left_out.CreateAnalyser) h k = (IsUtf8-are_ascii _ refl, tt)
  given_kept held (op.LeftOut left_out.SetListener) h k = (IsUtf8-are_ascii _ refl, tt)
  given_kept held (op.LeftOut left_out.CreateMediaElementSource) h k = (IsUtf8-are_ascii _ refl, tt)
  given_kept held (op.LeftOut left_out.CreateMediaStreamSource) h k = (IsUtf8-are_ascii _ refl, tt)
  given_kept held (op.LeftOut left_out.CreateMediaStreamTrackSource) h k = (IsUtf8-are_ascii _ refl, tt)
  given_kept held (op.LeftOut left_out.CreateMediaStreamDestination) h k = (IsUtf8-are_ascii _ refl, tt)
  given_kept held (op.LeftOut left_out.CreateScriptProcessor) h k = (IsUtf8-are_ascii _ refl, tt)
  given_kept held (op.LeftOut left_out.CreateAudioWorkletNode) h k = (IsUtf8-are_ascii _ refl, tt)

  -- the call of an operation in its range is kept
  pub kept_op : (held : Items) (o : Op) → IsInRange o → AreKeptItems held → IsKept (call_data rate held o)
  kept_op held o h k = kept_object (given_of rate held o) (given_kept held o h k)
