-- Numbers are read back from their text, and from nothing else.
use Rattle.std.proofs.Common.{ℕ, zero, suc, ℤ, pos, negsuc, neg_ℤ, ◌≡◌, ◌≢◌, ◌<◌, ◌≤◌, ◌^◌, length, List, [], ◌∷◌, drop, get_or, Result, Ok, Err, ◌⊎◌, inl, inr, refl, sym, ◌∙◌, ap, subst, arith, decimal, codes, FitsSigned, w32, pow_mono}
use Rattle.std.specs.Fmt.{signed_decimal}
use Rattle.std.specs.Int.Signed.{mag}
use Rattle.std.specs.Result.{result_ok}
use Rattle.std.specs.Str.Parse.{AllDigits, digits_value, ParsesUnsigned, ParsesSigned}
use Rattle.std.proofs.lemmas.Fmt.{decimal_is_IsNumeral, decimal_digit, decimal_nonempty, first_decimal, decimal-digits_value, parse-decimal, parse-signed_decimal}
use Rattle.std.proofs.lemmas.Int.{ints}
use Rattle.std.proofs.lemmas.Str.Parse.{IsNumeralModel, numerals_by_value, tells_digits, digit_at, parse_plain, parse_signed_minus, parse_signed_plain}
use mir.Syntax.{Width}
use mir.Val.{hbits}
use Rattle.wa_base.specs.Numbers.{IsFix}
use Rattle.explain.specs.LineReading.{IsReading, IsPlain, IsPlainSigned}

numbers : IsNumeralModel (AllDigits 10) (digits_value 10)
numbers = numerals_by_value (AllDigits 10) tells_digits

-- ---- what is written is plain

digit_first : (n : ℕ) → n < 2 ^ 64 → (48 ≤ get_or (decimal n) 0 0) × (get_or (decimal n) 0 0 ≤ 57)
digit_first n small = digit_at (decimal n) 0 (decimal_is_IsNumeral n small).0.1 (decimal_nonempty n small)

zero_or_more : (n : ℕ) → (n ≡ 0) ⊎ (0 < n)
zero_or_more n = grind arith

zero_alone : (n : ℕ) → n < 2 ^ 64 → get_or (decimal n) 0 0 ≡ 48 → length (decimal n) ≡ 1
zero_alone n small first = elim (zero_or_more n) [
  | inl none ↦ ap (λ i. length (decimal i)) none ∙ ap length (decimal_digit 0 (omega arith))
  | inr some ↦ let above = first_decimal n some small in absurd (omega (arith, above, first))
]

pub plain_decimal : (n : ℕ) → n < 2 ^ 64 → IsPlain (decimal n)
plain_decimal n small = record { sign = λ e. let d = digit_first n small in omega (arith, d.0, e); zero = zero_alone n small }

not_zero : (n : ℕ) → n < 2 ^ 64 → 0 < n → decimal n ≢ codes "0"
not_zero n small some e = let above = first_decimal n some small in omega (arith, above, ap (λ text. get_or text 0 0) e)

pub plain_signed : (z : ℤ) → mag z < 2 ^ 63 → IsPlainSigned (signed_decimal z)
plain_signed (pos n) small = record {
  plain = plain_decimal n (omega arith);
  behind = λ digits e. let d = digit_first n (omega arith) in absurd (omega (arith, d.0, ap (λ text. get_or text 0 0) e));
}
plain_signed (negsuc n) small = record {
  plain = record { sign = λ e. omega (arith, e); zero = λ e. absurd (omega (arith, e)) };
  behind = λ digits e.
      let same : decimal (suc n) ≡ digits = ap (drop 1) e in
      (subst IsPlain same (plain_decimal (suc n) (omega arith)), λ none. not_zero (suc n) (omega arith) (omega arith) (same ∙ none));
}

-- ---- what is read is written so

-- plain digits are the text of their number
is_decimal : (ds : List ℕ) → IsPlain ds → AllDigits 10 ds → 0 < length ds → digits_value 10 ds < 2 ^ 64 → decimal (digits_value 10 ds) ≡ ds
is_decimal ds plain digits some small = decimal-digits_value numbers ds digits some plain.zero small

pub read_unsigned : (E : Type 0) (k : ℕ) (text : List ℕ) (r : Result ℕ E) → k ≤ 64 → ParsesUnsigned k 10 text r → IsPlain text → IsReading (λ n. n < 2 ^ k) decimal text (result_ok r)
read_unsigned E k text (Ok x) few parsed plain =
    let read = parse_plain numbers {E = E} k text (Ok x) parsed plain.sign in
    let fits : digits_value 10 text < 2 ^ k = read.0.2 in
    let below : 2 ^ k ≤ 2 ^ 64 = pow_mono few in
    (subst (λ n. n < 2 ^ k) (sym read.1) fits, ap decimal read.1 ∙ is_decimal text plain read.0.0 read.0.1 (omega arith))
read_unsigned E k text (Err e) few parsed plain = λ n fits same.
    let below : 2 ^ k ≤ 2 ^ 64 = pow_mono few in
    let is = parse-decimal {E = E} k n text (Err e) fits (omega arith) (sym same) parsed in
    cc

pub not_unsigned : (k : ℕ) (text : List ℕ) → k ≤ 64 → (IsPlain text → ⊥) → (n : ℕ) → n < 2 ^ k → decimal n ≢ text
not_unsigned k text few not_plain n fits same =
    let below : 2 ^ k ≤ 2 ^ 64 = pow_mono few in
    not_plain (subst IsPlain same (plain_decimal n (omega arith)))

-- ---- signs

minus_or_not : (text : List ℕ) → ((digits : List ℕ) × (text ≡ 45 ∷ digits)) ⊎ (get_or text 0 0 ≢ 45)
minus_or_not [] = inr (λ e. omega (arith, e))
minus_or_not (c ∷ cs) = elim (by_first c) [ inl e ↦ inl (cs, ap (λ d. d ∷ cs) e) | inr apart ↦ inr apart ]
  where
    by_first : (c : ℕ) → (c ≡ 45) ⊎ (c ≡ 45 → ⊥)
    by_first c = grind arith

-- minus a number above 0
minus : (m : ℕ) → 0 < m → (k : ℕ) × (m ≡ suc k) × (neg_ℤ (pos m) ≡ negsuc k)
minus zero some = absurd (omega arith)
minus (suc k) some = (k, refl, refl)

pub read_signed : (E : Type 0) (w : Width) (text : List ℕ) (r : Result ℤ E) → hbits w ≤ 63 → ParsesSigned w 10 text r → IsPlainSigned text → IsReading (FitsSigned w) signed_decimal text (result_ok r)
read_signed E w text (Err e) few parsed plain = λ z fits same.
    let below : 2 ^ hbits w ≤ 2 ^ 63 = pow_mono few in
    let within = fits.sfits in
    let is = parse-signed_decimal {E = E} w z text (Err e) fits (omega arith) (sym same) parsed in
    cc
read_signed E w text (Ok z) few parsed plain = elim (minus_or_not text) [ inl (digits, is) ↦ behind digits is | inr apart ↦ in_front apart ]
  where
    below : 2 ^ hbits w ≤ 2 ^ 63
    below = pow_mono few

    in_front : get_or text 0 0 ≢ 45 → FitsSigned w z × (signed_decimal z ≡ text)
    in_front apart =
        let read = parse_signed_plain numbers {E = E} w text (Ok z) parsed plain.plain.sign apart in
        let fits = read.0.2 in
        (subst (FitsSigned w) (sym read.1) (record { sfits = fits }), ap signed_decimal read.1 ∙ is_decimal text plain.plain read.0.0 read.0.1 (omega (arith, fits, below)))

    behind : (digits : List ℕ) → text ≡ 45 ∷ digits → FitsSigned w z × (signed_decimal z ≡ text)
    behind digits is =
        let read = parse_signed_minus numbers {E = E} w (45 ∷ digits) (Ok z) (subst (λ t. ParsesSigned {E = E} w 10 t (Ok z)) is parsed) refl in
        let rest = plain.behind digits is in
        let most = read.0.2 in
        let spelled = is_decimal digits rest.0 read.0.0 read.0.1 (omega (arith, most, below)) in
        elim (zero_or_more (digits_value 10 digits)) [
          | inl none ↦ absurd (rest.1 (sym spelled ∙ ap decimal none ∙ decimal_digit 0 (omega arith)))
          | inr some ↦ below_zero digits is (minus (digits_value 10 digits) some) read.1 most spelled
        ]
      where
        below_zero : (digits : List ℕ) → text ≡ 45 ∷ digits → (k : ℕ) × (digits_value 10 digits ≡ suc k) × (neg_ℤ (pos (digits_value 10 digits)) ≡ negsuc k) → z ≡ neg_ℤ (pos (digits_value 10 digits))
            → digits_value 10 digits ≤ 2 ^ hbits w → decimal (digits_value 10 digits) ≡ digits → FitsSigned w z × (signed_decimal z ≡ text)
        below_zero digits is (k, e, negative) value most spelled =
            let same : z ≡ negsuc k = value ∙ negative in
            (subst (FitsSigned w) (sym same) (record { sfits = omega (arith, most, e) }), ap signed_decimal same ∙ ap (λ text. 45 ∷ text) (ap decimal (sym e) ∙ spelled) ∙ sym is)

pub not_signed : (w : Width) (text : List ℕ) → hbits w ≤ 63 → (IsPlainSigned text → ⊥) → (z : ℤ) → FitsSigned w z → signed_decimal z ≢ text
not_signed w text few not_plain z fits same =
    let below : 2 ^ hbits w ≤ 2 ^ 63 = pow_mono few in
    let within = fits.sfits in
    not_plain (subst IsPlainSigned same (plain_signed z (omega arith)))

-- ---- cells

fix_fits : (z : ℤ) → IsFix z → FitsSigned w32 z
fix_fits (pos n) h = record { sfits = omega (arith, ints, h.1) }
fix_fits (negsuc n) h = record { sfits = omega (arith, ints, h.0) }

fits_fix : (z : ℤ) → FitsSigned w32 z → IsFix z
fits_fix (pos n) h = let l = h.sfits in (omega (arith, ints, l), omega (arith, ints, l))
fits_fix (negsuc n) h = let l = h.sfits in (omega (arith, ints, l), omega (arith, ints, l))

pub read_cell : (E : Type 0) (text : List ℕ) (r : Result ℤ E) → ParsesSigned w32 10 text r → IsPlainSigned text → IsReading IsFix signed_decimal text (result_ok r)
read_cell E text (Ok z) parsed plain = let read = read_signed E w32 text (Ok z) (omega arith) parsed plain in (fits_fix z read.0, read.1)
read_cell E text (Err e) parsed plain = let read = read_signed E w32 text (Err e) (omega arith) parsed plain in λ z fix same. read z (fix_fits z fix) same

pub not_cell : (text : List ℕ) → (IsPlainSigned text → ⊥) → (z : ℤ) → IsFix z → signed_decimal z ≢ text
not_cell text not_plain z fix same = not_signed w32 text (omega arith) not_plain z (fix_fits z fix) same
