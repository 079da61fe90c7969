-- The numbers that 1 to 10 decimal digits write.
use Rattle.std.proofs.Common.{ℕ, ◌≡◌, ◌<◌, ◌≤◌, ◌^◌, ◌≢◌, not, true, List, length, get_or, Some, Result, Ok, Err, refl, ap, arith, inl, inr}
use Rattle.std.specs.Result.{OkIff, result_ok}
use Rattle.std.specs.Str.{all_ascii_digits}
use Rattle.std.specs.Str.Parse.{ParsesUnsigned, digits_value}
use Rattle.std.proofs.lemmas.Bool.{cases_Bool, and_parts, and_from, le-leb, leb-true, ne_eqb, eqb-false, not-true}
use Rattle.std.proofs.lemmas.Str.Parse.{IsNumeralModel, numerals_by_value, tells_all_ascii_digits, parse_plain, digits_value_short}
use Rattle.explain_top.specs.Words.{is_number, number_in}

-- texts of decimal digits, and the numbers that they write
own : IsNumeralModel (λ text. all_ascii_digits text ≡ true) (digits_value 10)
own = numerals_by_value _ tells_all_ascii_digits

-- what `is_number` tells of a text
record IsNumber (text : List ℕ) : Type 0 where
  some : 0 < length text
  short : length text ≤ 10
  digits : all_ascii_digits text ≡ true

told : (text : List ℕ) → is_number text ≡ true → IsNumber text
told text is =
    let parts = and_parts _ (all_ascii_digits text) is in
    let long = and_parts _ _ parts.0 in
    let some : length text ≢ 0 = eqb-false (length text) 0 (not-true _ long.0) in
    record { some = omega arith; short = leb-true (length text) 10 long.1; digits = parts.1 }

tells : (text : List ℕ) → IsNumber text → is_number text ≡ true
tells text number =
    and_from _ _ (and_from _ _ (ap not (ne_eqb (length text) 0 (λ none. absurd (omega arith)))) (le-leb (length text) 10 number.short)) number.digits

-- 1 to 10 digits write a number that fits 64 bits
fits : (text : List ℕ) → IsNumber text → digits_value 10 text < 2 ^ 64
fits text number = let below : digits_value 10 text < 10 ^ 10 = digits_value_short own text 10 number.digits number.short in omega arith

-- what is read of a text without a sign, of at most ten bytes
read_plain : {E : Type 0} (text : List ℕ) (r : Result ℕ E) → length text ≤ 10
    → OkIff r ((all_ascii_digits text ≡ true) × (0 < length text) × (digits_value 10 text < 2 ^ 64)) (digits_value 10 text) → result_ok r ≡ number_in text
read_plain text (Ok x) short h = rw (tells text (record { some = h.0.1; short = short; digits = h.0.0 })) (ap Some h.1)
read_plain text (Err e) short h = elim (cases_Bool (is_number text)) [
  | inl is ↦ let number = told text is in absurd (h (number.digits, number.some, fits text number))
  | inr is_not ↦ rw is_not refl
]

pub number_parsed : {E : Type 0} (text : List ℕ) (r : Result ℕ E) → ParsesUnsigned 64 10 text r → length text ≤ 10 → get_or text 0 0 ≢ 43 → result_ok r ≡ number_in text
number_parsed text r h short plain = read_plain text r short (parse_plain own 64 text r h plain)
