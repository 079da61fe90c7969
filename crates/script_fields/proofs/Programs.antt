-- The instructions that texts are.
use Rattle.std.proofs.Common.{ℕ, suc, zero, ◌≡◌, ◌<◌, ◌≤◌, ◌+◌, ◌^◌, ◌==◌, ◌≢◌, ◌&&◌, Bool, true, false, List, [], ◌∷◌, ◌++◌, length, get_or, drop, take, Option, Some, None, Result, Ok, Err, refl, sym, ap, subst, ◌∙◌, arith, inl, inr, ℤ, pos, negsuc, neg_ℤ}
use Rattle.std.specs.Prelude.{if◌then◌else◌, is_some, not, option_map, option_and_then, find, int_le, nat_le, bytes_eq}
use Rattle.script_ast.specs.Words.{instr_word}
use Rattle.std.specs.Char.{is_ascii_digit}
use Rattle.std.specs.Int.{w32, IsInRange}
use Rattle.std.specs.Int.RustNames.{FitsSigned}
use Rattle.std.specs.List.{list_all, position, position_or_len}
use Rattle.std.specs.Result.{OkIff}
use Rattle.std.specs.Str.{all_ascii_digits}
use Rattle.std.specs.Str.Parse.{ParsesUnsigned, ParsesSigned, IsNumeral, digits_value, signed_digits_value, starts_with_minus, without_leading_sign}
use Rattle.std.proofs.lemmas.Bool.{cases_Bool, and_parts, and_from, le-leb, leb-true, leb-false, le-ltb, lt-leb}
use Rattle.std.proofs.lemmas.List.{take_more}
use Rattle.std.proofs.lemmas.Str.Parse.{parse_digits, not_in_digits, without_leading_plus_none}
use Rattle.serde_json.specs.Find.{as_str}
use Rattle.json_tree.specs.View.{view, items_view}
use Rattle.json_tree.specs.declared.values.Value.{Value}
use Rattle.node_table.specs.declared.code.Instr.{Instr}
use Rattle.script_fields.specs.Instructions.{is_number, number_of, without_minus, signed_number_of, first_instr, plain_instrs, plain_instr_of, is_space, instr_of, is_in_range, instrs, instr_or_in, code_of, number_read, fix_read, instr_read}
use Rattle.script_fields.specs.declared.values.Cause.{Cause}
use Rattle.script_fields.specs.declared.values.Cause.TheVariants.{WrongKind, OutOfRange}
use Rattle.script_fields.proofs.Digits.{own, all_listed}
use Rattle.script_fields.proofs.Times.{no_minus}

-- ---- numbers

pub number_if : (text : List ℕ) (b : Bool) → length text ≢ 0 → b ≡ list_all is_ascii_digit text → b ≡ is_number text
number_if text b some h = h ∙ sym (all_listed text) ∙ sym (ap (λ x. x && all_ascii_digits text) (le-leb 1 (length text) (omega (arith, some))))

-- what `is_number` tells
number_parts : (text : List ℕ) → is_number text ≡ true → (0 < length text) × (all_ascii_digits text ≡ true)
number_parts text is = let parts = and_parts _ (all_ascii_digits text) is in (leb-true 1 (length text) parts.0, parts.1)

pub minus_none : (text : List ℕ) → ((rest : List ℕ) → text ≢ 45 ∷ rest) → text ≡ without_minus text
minus_none text none = rw (no_minus text none) refl

-- of an unsigned number
pub no_number : (text : List ℕ) → is_number text ≡ false → Err WrongKind ≡ number_read (number_of text)
no_number text is_not = rw is_not refl

pub past_number : {E : Type 0} (text : List ℕ) (e : E) → ParsesUnsigned 32 10 text (Err e) → is_number text ≡ true → Err OutOfRange ≡ number_read (number_of text)
past_number text e h is =
    let parts = number_parts text is in
    let past : ¬ ((0 < length text) × (digits_value 10 text < 2 ^ 32)) = parse_digits own 32 text (Err e) h parts.1 in
    let high : 2147483647 < digits_value 10 text = elim (cases_Bool (nat_le (digits_value 10 text) 2147483647)) [
      | inl low ↦ absurd (past (parts.0, let k = leb-true (digits_value 10 text) 2147483647 low in omega (arith, k)))
      | inr not_low ↦ leb-false (digits_value 10 text) 2147483647 not_low
    ] in
    rw (is, lt-leb _ _ high) refl

-- of a signed number
pub no_fix : (text : List ℕ) → is_number (without_minus text) ≡ false → Err WrongKind ≡ fix_read (signed_number_of text)
no_fix text is_not = rw is_not refl

digits_numeral : (ds : List ℕ) → is_number ds ≡ true → IsNumeral 10 ds
digits_numeral ds is = let parts = number_parts ds is in (parts.0, own.to ds parts.1)

no_plus : (ds : List ℕ) → is_number ds ≡ true → get_or ds 0 0 ≢ 43
no_plus ds is =
    let parts = number_parts ds is in
    not_in_digits own ds 43 parts.1 (λ (h : IsInRange 48 57 43). let k = h.0 in omega (arith, k)) 0 parts.0

numeral : (text : List ℕ) → is_number (without_minus text) ≡ true → IsNumeral 10 (without_leading_sign text)
numeral text is = elim (cases_Bool (starts_with_minus text)) [
  | inl minus ↦ rw minus (digits_numeral (drop 1 text) (rw minus at is))
  | inr plain ↦
      let digits : is_number text ≡ true = rw plain at is in
      rw (plain, without_leading_plus_none text (no_plus text digits)) (digits_numeral text digits)
]

abbrev is_fix : ℤ → Bool
is_fix z = int_le (neg_ℤ (pos 2147483648)) z && int_le z (pos 2147483647)

fix_fits : (z : ℤ) → is_fix z ≡ true → FitsSigned w32 z
fix_fits (pos n) h = let k = leb-true n 2147483647 (and_parts (int_le (neg_ℤ (pos 2147483648)) (pos n)) (int_le (pos n) (pos 2147483647)) h).1 in record { sfits = omega (arith, k) }
fix_fits (negsuc n) h = let k = leb-true n 2147483647 (and_parts (int_le (neg_ℤ (pos 2147483648)) (negsuc n)) (int_le (negsuc n) (pos 2147483647)) h).0 in record { sfits = omega (arith, k) }

pub past_fix : {E : Type 0} (text : List ℕ) (e : E) → ParsesSigned w32 10 text (Err e) → is_number (without_minus text) ≡ true → Err OutOfRange ≡ fix_read (signed_number_of text)
past_fix text e h is = elim (cases_Bool (is_fix (signed_digits_value 10 text))) [
  | inl fits ↦ absurd (h (numeral text is, fix_fits (signed_digits_value 10 text) fits))
  | inr fits_not ↦ rw (is, fits_not) refl
]

-- ---- words

found_if : (b : Bool) (x i : Instr) (rest : Option Instr) → (if b then Some x else rest) ≡ Some i → is_in_range x ≡ true → (rest ≡ Some i → is_in_range i ≡ true) → is_in_range i ≡ true
found_if true x i rest h first later = let same : x ≡ i = cc in subst (λ y. is_in_range y ≡ true) same first
found_if false x i rest h first later = later h

found_in : (p : Instr → Bool) (xs : List Instr) (i : Instr) → find p xs ≡ Some i → list_all is_in_range xs ≡ true → is_in_range i ≡ true
found_in p [] i h all = cc
found_in p (x ∷ xs) i h all = let parts = and_parts _ _ all in found_if (p x) x i (find p xs) h parts.0 (λ rest. found_in p xs i rest parts.1)

plain_in_range : (word : List ℕ) (i : Instr) → Some i ≡ plain_instr_of word → is_in_range i ≡ true
unfolding plain_instr_of
plain_in_range word i h = found_in (λ listed. bytes_eq (instr_word listed) word) plain_instrs i (sym h) refl

pub plain_read : (text : List ℕ) (i : Instr) → position_or_len is_space text ≡ length text → Some i ≡ plain_instr_of text → Ok i ≡ instr_read (instr_of text)
unfolding instr_of
plain_read text i none h =
    let least : length text ≤ position_or_len is_space text = omega (arith, none) in
    rw (le-ltb _ _ least, ← h, plain_in_range text i h) refl

-- ---- lists

-- what holds of every item's instruction
pub list_all_instrs : (p : Option Instr → Bool) (list : List Value) → list_all p (instrs (items_view list)) ≡ list_all (λ v. p (option_and_then instr_of (as_str (view v)))) list
list_all_instrs p [] = refl
list_all_instrs p (v ∷ list) = rw (list_all_instrs p list) refl

code_of_append : (first second : List Value) → code_of (items_view (first ++ second)) ≡ code_of (items_view first) ++ code_of (items_view second)
unfolding code_of
code_of_append [] second = refl
code_of_append (v ∷ first) second = rw (code_of_append first second) refl

pub code_of_none : code_of (items_view []) ≡ []
unfolding code_of
code_of_none = refl

code_of_one : (v : Value) → code_of (items_view (v ∷ [])) ≡ instr_or_in (option_and_then instr_of (as_str (view v))) ∷ []
unfolding code_of
code_of_one v = refl

-- the next instruction, after those of the items before it
pub code_of_next : (list : List Value) (i : ℕ) (v : Value) → i < length list → v ≡ get_or list i v
    → code_of (items_view (take (i + 1) list)) ≡ code_of (items_view (take i list)) ++ instr_or_in (option_and_then instr_of (as_str (view v))) ∷ []
code_of_next list i v h is = rw (take_more list i v h, ← is, code_of_append (take i list) (v ∷ []), code_of_one v) refl
