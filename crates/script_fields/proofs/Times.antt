-- The numbers of frames of texts of seconds.
use Rattle.std.proofs.Common.{ℕ, suc, ◌≡◌, ◌<◌, ◌≤◌, ◌+◌, ◌*◌, ◌^◌, ◌==◌, ◌≢◌, ◌&&◌, ◌||◌, Bool, true, false, List, [], ◌∷◌, ◌++◌, length, get_or, drop, Option, Some, None, refl, sym, ap, subst, ◌∙◌, arith, ℤ, pos, negsuc, neg_ℤ, ◌*ℤ◌, ◌≤ℤ◌, unsigned_abs}
use Rattle.std.specs.Prelude.{if◌then◌else◌, is_some, not, option_map}
use Rattle.std.specs.Int.{w128}
use Rattle.std.specs.Int.RustNames.{FitsSigned}
use Rattle.std.specs.List.{position, position_or_len, before_first, after_first}
use Rattle.std.specs.Str.Parse.{digits_value, starts_with_minus}
use Rattle.std.proofs.Math.IntN.{pos-*ℤ-pos, negsuc-*ℤ-pos}
use Rattle.std.proofs.Math.Nat.{mul-le-mul, pow-le-pow_right}
use Rattle.std.proofs.lemmas.Bool.{and_from, or_right, lt-ltb, ne_eqb}
use Rattle.std.proofs.lemmas.Int.{ints, fits_signed_mul}
use Rattle.script_fields.specs.Seconds.{is_point, are_digits, whole_part, fraction, has_point, is_decimal, decimal_of, frames_at, frames_of_seconds}
use Rattle.script_fields.specs.declared.seconds.Decimal.{Decimal}
use Rattle.script_fields.proofs.Digits.{small, digits_joined, told}

-- ---- a number with a point

some_point : (n m : ℕ) (b : Bool) → b ≡ true → is_some (if b then Some n else None) ≡ true
some_point n m true h = refl
some_point n m false h = cc

point_there : (text : List ℕ) → position_or_len is_point text < length text → has_point text ≡ true
point_there text before = some_point (position_or_len is_point text) 0 _ (lt-ltb (position_or_len is_point text) (length text) before)

if_true : (b : Bool) (d : Decimal) → b ≡ true → (if b then Some d else None) ≡ Some d
if_true true d h = refl
if_true false d h = cc

made : ℕ → ℕ → Decimal
made units places = record { units = units; places = places }

pub with_point : (text whole parts : List ℕ) (u v : ℕ) → whole ≡ before_first is_point text → parts ≡ after_first is_point text → position_or_len is_point text < length text
    → (are_digits 10 whole ≡ true) × (u ≡ digits_value 10 whole) → (are_digits 9 parts ≡ true) × (v ≡ digits_value 10 parts)
    → Some (let d : Decimal = record { units = u * 10 ^ length parts + v; places = length parts } in d) ≡ decimal_of text
with_point text whole parts u v first second before a b =
    let whole_is : are_digits 10 (whole_part text) ≡ true = rw (← first) a.0 in
    let parts_is : are_digits 9 (fraction text) ≡ true = rw (← second) b.0 in
    let is : is_decimal text ≡ true = and_from _ _ whole_is (or_right _ _ parts_is) in
    let value : u * 10 ^ length parts + v ≡ digits_value 10 (whole_part text ++ fraction text) =
    rw (a.1, b.1, first, second) (sym (digits_joined (whole_part text) (fraction text))) in
    let places : length parts ≡ length (fraction text) = ap length second in
    ap (λ n. let d : Decimal = record { units = n; places = length parts } in Some d) value
    ∙ ap (λ n. let d : Decimal = record { units = digits_value 10 (whole_part text ++ fraction text); places = n } in Some d) places
    ∙ sym (if_true (is_decimal text) _ is)

-- ten digits and nine fit
pub product_below : (whole parts : List ℕ) (u v : ℕ) → (are_digits 10 whole ≡ true) × (u ≡ digits_value 10 whole) → (are_digits 9 parts ≡ true) × (v ≡ digits_value 10 parts)
    → (u * 10 ^ length parts ≤ 9999999999 * 1000000000) × (v < 1000000000)
product_below whole parts u v a b =
    let first : digits_value 10 whole < 10 ^ 10 = small 10 whole a.0 in
    let second : digits_value 10 parts < 10 ^ 9 = small 9 parts b.0 in
    let places : 10 ^ length parts ≤ 10 ^ 9 = pow-le-pow_right {n = 10} (omega arith) ((told 9 parts b.0).short) in
    let below : u ≤ 9999999999 = omega (arith, first, a.1) in
    let power : 10 ^ length parts ≤ 1000000000 = omega (arith, places) in
    (mul-le-mul below power, omega (arith, second, b.1))

-- ---- a sign

pub no_minus : (text : List ℕ) → ((rest : List ℕ) → text ≢ 45 ∷ rest) → starts_with_minus text ≡ false
no_minus [] none = refl
no_minus (c ∷ text) none = ne_eqb c 45 (λ is. none text (ap (λ x. x ∷ text) is))

-- ---- frames

pub product_bounds : (z : ℤ) (n : ℕ) → unsigned_abs z ≤ 2 ^ 64 → n < 2 ^ 32 → (neg_ℤ (pos (2 ^ 120)) ≤ℤ (z *ℤ pos n)) × ((z *ℤ pos n) ≤ℤ pos (2 ^ 120))
product_bounds (pos m) n h k =
    let rate : n ≤ 2 ^ 32 = omega (arith, k) in
    let e : m * n ≤ 2 ^ 64 * 2 ^ 32 = mul-le-mul h rate in
    rw (pos-*ℤ-pos m n) (omega (arith, ints), omega (arith, ints, e))
product_bounds (negsuc m) n h k =
    let rate : n ≤ 2 ^ 32 = omega (arith, k) in
    let e : suc m * n ≤ 2 ^ 64 * 2 ^ 32 = mul-le-mul h rate in
    rw (negsuc-*ℤ-pos m n) (omega (arith, ints, e), omega (arith, ints))

pub product_fits : (z : ℤ) (n : ℕ) → unsigned_abs z ≤ 2 ^ 64 → n < 2 ^ 32 → FitsSigned w128 (z *ℤ pos n)
product_fits z n h k = fits_signed_mul w128 z (pos n) (2 ^ 64) (2 ^ 32) h (omega (arith, k)) (omega arith)

pub fits_at : (z r : ℤ) (rate : ℕ) → r ≡ pos rate → unsigned_abs z ≤ 2 ^ 64 → rate < 2 ^ 32 → FitsSigned w128 (z *ℤ r)
fits_at z r rate is h k = subst (λ x. FitsSigned w128 (z *ℤ x)) (sym is) (product_fits z rate h k)

pub bounds_at : (z r : ℤ) (rate : ℕ) → r ≡ pos rate → unsigned_abs z ≤ 2 ^ 64 → rate < 2 ^ 32 → (neg_ℤ (pos (2 ^ 120)) ≤ℤ (z *ℤ r)) × ((z *ℤ r) ≤ℤ pos (2 ^ 120))
bounds_at z r rate is h k = subst (λ x. (neg_ℤ (pos (2 ^ 120)) ≤ℤ (z *ℤ x)) × ((z *ℤ x) ≤ℤ pos (2 ^ 120))) (sym is) (product_bounds z rate h k)

pub power_bounds : (places : ℕ) → places ≤ 9 → (1 ≤ 10 ^ places) × (10 ^ places ≤ 1000000000)
power_bounds places few =
    let none : 0 ≤ places = omega arith in
    let low : 10 ^ 0 ≤ 10 ^ places = pow-le-pow_right {n = 10} (omega arith) none in
    let high : 10 ^ places ≤ 10 ^ 9 = pow-le-pow_right {n = 10} (omega arith) few in
    (omega (arith, low), omega (arith, high))

-- a text without a sign
unsigned_text : (rate : ℕ) (text : List ℕ) → ((rest : List ℕ) → text ≢ 45 ∷ rest)
    → frames_of_seconds rate text ≡ option_map (λ (d : Decimal). frames_at rate (pos d.units) d.places) (decimal_of text)
unfolding frames_of_seconds
unsigned_text rate text none = rw (no_minus text none) refl

pub no_seconds : (rate : ℕ) (text : List ℕ) → ((rest : List ℕ) → text ≢ 45 ∷ rest) → None ≡ decimal_of text → None ≡ frames_of_seconds rate text
no_seconds rate text none h = ap (option_map (λ (d : Decimal). frames_at rate (pos d.units) d.places)) h ∙ sym (unsigned_text rate text none)

pub some_seconds : (rate : ℕ) (text : List ℕ) (d : Decimal) (f : ℤ) → ((rest : List ℕ) → text ≢ 45 ∷ rest) → Some d ≡ decimal_of text
    → f ≡ frames_at rate (pos d.units) d.places → Some f ≡ frames_of_seconds rate text
some_seconds rate text d f none h is =
    ap Some is ∙ ap (option_map (λ (d : Decimal). frames_at rate (pos d.units) d.places)) h ∙ sym (unsigned_text rate text none)
