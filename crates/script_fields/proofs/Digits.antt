-- The numbers that decimal digits spell.
use Rattle.std.proofs.Common.{ℕ, suc, ◌≡◌, ◌<◌, ◌≤◌, ◌+◌, ◌*◌, ◌^◌, ◌≢◌, ◌&&◌, Bool, true, false, List, [], ◌∷◌, ◌++◌, length, get_or, Option, Some, None, Result, Ok, Err, refl, sym, ap, ◌∙◌, arith, inl, inr}
use Rattle.std.specs.Prelude.{if◌then◌else◌, OnSome, IsTrue}
use Rattle.std.specs.Char.{is_ascii_digit, digit_value}
use Rattle.std.specs.List.{list_all}
use Rattle.std.specs.Result.{OkIff, result_ok}
use Rattle.std.specs.Str.{all_ascii_digits}
use Rattle.std.specs.Str.Parse.{ParsesUnsigned, digits_value, digits_value_after}
use Rattle.std.proofs.Math.Nat.{pow-succ'}
use Rattle.std.proofs.lemmas.Bool.{cases_Bool, and_parts, and_from, le-leb, leb-true}
use Rattle.std.proofs.lemmas.Str.Parse.{IsNumeralModel, numerals_by_value, tells_all_ascii_digits, parse_plain, digits_value_short}
use Rattle.script_fields.specs.Seconds.{are_digits}

-- texts of decimal digits, and the numbers that they write
pub own : IsNumeralModel (λ text. all_ascii_digits text ≡ true) (digits_value 10)
own = numerals_by_value _ tells_all_ascii_digits

-- what `are_digits` tells of a text
pub record AreDigits (most : ℕ) (text : List ℕ) : Type 0 where
  pub some : 1 ≤ length text
  pub short : length text ≤ most
  pub digits : all_ascii_digits text ≡ true

pub told : (most : ℕ) (text : List ℕ) → are_digits most text ≡ true → AreDigits most text
told most text is =
    let parts = and_parts _ (all_ascii_digits text) is in
    let long = and_parts _ _ parts.0 in
    record { some = leb-true 1 (length text) long.0; short = leb-true (length text) most long.1; digits = parts.1 }

tells : (most : ℕ) (text : List ℕ) → AreDigits most text → are_digits most text ≡ true
tells most text number = and_from _ _ (and_from _ _ (le-leb 1 (length text) number.some) (le-leb (length text) most number.short)) number.digits

-- so many digits write a number below the power of ten
pub small : (most : ℕ) (text : List ℕ) → are_digits most text ≡ true → digits_value 10 text < 10 ^ most
small most text is = let number = told most text is in digits_value_short own text most number.digits number.short

-- what is read of a text without a sign, of at most ten bytes
read_plain : {E : Type 0} (most : ℕ) (text : List ℕ) (r : Result ℕ E) → length text ≤ most → most ≤ 10
    → OkIff r ((all_ascii_digits text ≡ true) × (0 < length text) × (digits_value 10 text < 2 ^ 64)) (digits_value 10 text)
    → result_ok r ≡ (if are_digits most text then Some (digits_value 10 text) else None)
read_plain most text (Ok x) short few h = rw (tells most text (record { some = h.0.1; short = short; digits = h.0.0 })) (ap Some h.1)
read_plain most text (Err e) short few h = elim (cases_Bool (are_digits most text)) [
  | inl is ↦
      let number = told most text is in
      let below : digits_value 10 text < 10 ^ 10 = digits_value_short own text 10 number.digits (omega (arith, number.short)) in
      absurd (h (number.digits, number.some, omega (arith, below)))
  | inr is_not ↦ rw is_not refl
]

pub number_parsed : {E : Type 0} (most : ℕ) (text : List ℕ) (r : Result ℕ E) → ParsesUnsigned 64 10 text r → length text ≤ most → most ≤ 10 → get_or text 0 0 ≢ 43
    → result_ok r ≡ (if are_digits most text then Some (digits_value 10 text) else None)
number_parsed most text r h short few plain = read_plain most text r short few (parse_plain own 64 text r h plain)

-- a number was read only of digits
pub some_if : (o : Option ℕ) (b : Bool) (v : ℕ) → o ≡ (if b then Some v else None) → OnSome o (IsTrue b)
some_if None b v h = tt
some_if (Some x) true v h = refl
some_if (Some x) false v h = cc

pub given_if : (b : Bool) (u v : ℕ) → Some u ≡ (if b then Some v else None) → (b ≡ true) × (u ≡ v)
given_if true u v h = (refl, cc)
given_if false u v h = cc

-- digits behind others
after_is : (n : ℕ) (ys : List ℕ) → digits_value_after 10 n ys ≡ n * 10 ^ length ys + digits_value 10 ys
after_is n [] = omega arith
after_is n (c ∷ ys) =
    omega (arith, after_is (n * 10 + digit_value c) ys, after_is (0 * 10 + digit_value c) ys, ap (λ x. n * x) (pow-succ' 10 (length ys)))

after_both : (n : ℕ) (xs ys : List ℕ) → digits_value_after 10 n (xs ++ ys) ≡ digits_value_after 10 (digits_value_after 10 n xs) ys
after_both n [] ys = refl
after_both n (c ∷ xs) ys = after_both (n * 10 + digit_value c) xs ys

pub digits_joined : (xs ys : List ℕ) → digits_value 10 (xs ++ ys) ≡ digits_value 10 xs * 10 ^ length ys + digits_value 10 ys
digits_joined xs ys = after_both 0 xs ys ∙ after_is (digits_value 10 xs) ys

pub all_listed : (text : List ℕ) → all_ascii_digits text ≡ list_all is_ascii_digit text
all_listed [] = refl
all_listed (c ∷ text) = ap (λ b. is_ascii_digit c && b) (all_listed text)
