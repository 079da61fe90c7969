-- The text of a time is read as the time.
use Rattle.std.proofs.Common.{◌≡◌, ◌<◌, ◌≤◌, ◌+◌, ◌*◌, ◌-◌, ◌/◌, ◌%◌, ◌^◌, ℕ, zero, suc, ℤ, pos, negsuc, neg_ℤ, ◌*ℤ◌, ◌+ℤ◌, [], ◌∷◌, ◌++◌, length, Some, decimal, refl, sym, ap, ◌∙◌, arith, length-append, le-leb, le-ltb, pow-suc, mod-lt, mul_comm, mul_assoc}
use Rattle.std.specs.Int.{int_div_euclid}
use Rattle.std.specs.Str.Parse.{AllDigits, digits_value_after}
use Rattle.std.proofs.lemmas.Fmt.{decimal_is_IsNumeral, length-decimal-le}
use Rattle.std.proofs.lemmas.Int.{ints}
use Rattle.std.proofs.lemmas.Nat.{mul-le, div-add-mod'}
use Rattle.std.proofs.lemmas.Str.{digit_value_digit}
use Rattle.script_ast.specs.Ranges.{IsTime}
use Rattle.script_fields.specs.Seconds.{decimal_of, frames_of_seconds}
use Rattle.script_text.specs.Seconds.{last_digits, seconds_text, time_text}
use Rattle.script_text.proofs.Law.Cut.{cut_before, cut_after, cut_there, digits_without, digits_all_ascii, digits_no_minus, AllDigits-append, value_append}

-- ---- nine digits

pub last_digits_are : (k n : ℕ) → AllDigits 10 (last_digits k n)
unfolding last_digits
last_digits_are zero n = tt
last_digits_are (suc k) n =
    let value = digit_value_digit (48 + n % 10) (omega arith, omega arith) in
    AllDigits-append (last_digits k (n / 10)) ((48 + n % 10) ∷ []) (last_digits_are k (n / 10)) (omega (arith, value), tt)

last_digits_length : (k n : ℕ) → length (last_digits k n) ≡ k
unfolding last_digits
last_digits_length zero n = refl
last_digits_length (suc k) n = omega (arith, length-append (last_digits k (n / 10)) ((48 + n % 10) ∷ []), last_digits_length k (n / 10))

last_digits_value : (k n a : ℕ) → n < 10 ^ k → digits_value_after 10 a (last_digits k n) ≡ a * 10 ^ k + n
unfolding last_digits
last_digits_value zero n a h = omega arith
last_digits_value (suc k) n a h =
    let value = digit_value_digit (48 + n % 10) (omega arith, omega arith) in
    let less : n / 10 < 10 ^ k = omega (arith, pow-suc 10 k) in
    let front = last_digits_value k (n / 10) a less in
    let power : a * 10 ^ suc k ≡ a * 10 ^ k * 10 = ap (λ (x : ℕ). a * x) (pow-suc 10 k) ∙ sym (mul_assoc a (10 ^ k) 10) in
    value_append a (last_digits k (n / 10)) ((48 + n % 10) ∷ []) ∙ omega arith

-- ---- the number that is read

read_digits : (m : ℕ) → m < 10 ^ 19 → decimal_of (decimal (m / 1000000000) ++ 46 ∷ last_digits 9 (m % 1000000000)) ≡ Some (record { units = m; places = 9 })
read_digits m h =
    let numeral = decimal_is_IsNumeral (m / 1000000000) (omega arith) in
    let without = digits_without 46 (decimal (m / 1000000000)) (omega arith) numeral.0.1 in
    let front = cut_before 46 (decimal (m / 1000000000)) (last_digits 9 (m % 1000000000)) without in
    let behind = cut_after 46 (decimal (m / 1000000000)) (last_digits 9 (m % 1000000000)) without in
    let there = cut_there 46 (decimal (m / 1000000000)) (last_digits 9 (m % 1000000000)) without in
    let nine = last_digits_length 9 (m % 1000000000) in
    let some : 1 ≤ length (decimal (m / 1000000000)) = omega (arith, numeral.0.0) in
    let ten : length (decimal (m / 1000000000)) ≤ 10 = length-decimal-le 10 (m / 1000000000) (omega arith) (omega arith) (omega arith) in
    let value = last_digits_value 9 (m % 1000000000) (m / 1000000000) (omega arith) in
    let units : digits_value_after 10 0 (decimal (m / 1000000000) ++ last_digits 9 (m % 1000000000)) ≡ m =
    value_append 0 (decimal (m / 1000000000)) (last_digits 9 (m % 1000000000))
    ∙ ap (λ (a : ℕ). digits_value_after 10 a (last_digits 9 (m % 1000000000))) numeral.1 ∙ value ∙ omega arith in
    rw (front, behind, there, le-leb _ _ some, le-leb _ _ ten, digits_all_ascii _ numeral.0.1, nine, digits_all_ascii _ (last_digits_are 9 (m % 1000000000)), units) refl

-- ---- rounding there and back

doubled : (a b : ℕ) → a * (2 * b) ≡ 2 * (a * b)
doubled a b = sym (mul_assoc a 2 b) ∙ ap (λ (x : ℕ). x * b) (mul_comm a 2) ∙ mul_assoc 2 a b

-- what a quotient by twice the rate is, times the rate
quotient : (x r : ℕ) → 0 < r → (2 * (x / (2 * r) * r) ≤ x) × (x < 2 * (x / (2 * r) * r) + 2 * r)
quotient x r some =
    let whole = div-add-mod' x (2 * r) in
    let positive : 0 < 2 * r = omega arith in
    let rest : x % (2 * r) < 2 * r = mod-lt x positive in
    let product = doubled (x / (2 * r)) r in
    (omega arith, omega arith)

back_pos : (n r z : ℕ) → 0 < r → r < 1000000000 → z ≡ (2 * (n * 1000000000) + r) / (2 * r) → (2 * (z * r) + 1000000000) / 2000000000 ≡ n
back_pos n r z some small is = let q = quotient (2 * (n * 1000000000) + r) r some in rw is (omega (arith, q.0, q.1))

back_neg : (n r k j : ℕ) → 0 < r → r < 1000000000 → k + r + 1 ≡ 2 * (suc n * 1000000000) → j ≡ k / (2 * r) → (2 * (suc j * r) - 1000000000 - 1) / 2000000000 ≡ n
back_neg n r k j some small is this =
    let q = quotient k r some in
    let more : suc (k / (2 * r)) * r ≡ k / (2 * r) * r + r = omega arith in
    rw this (omega (arith, q.0, q.1))

-- not more billionths than fit
few : (x r : ℕ) → x ≤ 2199023255552000096000 → 8000 ≤ r → x / (2 * r) + 1 < 10 ^ 18
few x r h low =
    let q = quotient x r (omega arith) in
    let product = mul-le (x / (2 * r)) 8000 (x / (2 * r)) r (omega arith) low in
    omega (arith, q.0)

negative_sum : (n r k : ℕ) → k + r + 1 ≡ 2 * (suc n * 1000000000) → pos 2 *ℤ (negsuc n *ℤ pos 1000000000) +ℤ pos r ≡ negsuc k
negative_sum n r k is = omega (arith, ints)

negative_units : (w k : ℕ) → k + 1000000000 + 1 ≡ 2 * w → pos 2 *ℤ neg_ℤ (pos w) +ℤ pos 1000000000 ≡ negsuc k
negative_units w k is = omega (arith, ints)

-- ---- the text

text_pos : (m : ℕ) → seconds_text (pos m) ≡ decimal (m / 1000000000) ++ 46 ∷ last_digits 9 (m % 1000000000)
text_pos m = let least : 0 ≤ m = omega arith in rw (le-ltb m 0 least) refl

read_pos : (r m n : ℕ) → m < 10 ^ 18 → (2 * (m * r) + 1000000000) / 2000000000 ≡ n → frames_of_seconds r (seconds_text (pos m)) ≡ Some (pos n)
unfolding frames_of_seconds
read_pos r m n h is =
    let numeral = decimal_is_IsNumeral (m / 1000000000) (omega arith) in
    rw (text_pos m, digits_no_minus (decimal (m / 1000000000)) (46 ∷ last_digits 9 (m % 1000000000)) numeral.0.1 numeral.0.0, read_digits m (omega arith))
    (ap (λ (x : ℕ). Some (pos x)) is)

read_neg : (r j k n : ℕ) → suc j < 10 ^ 18 → k + 1000000000 + 1 ≡ 2 * (suc j * r) → k / 2000000000 ≡ n → frames_of_seconds r (seconds_text (negsuc j)) ≡ Some (negsuc n)
unfolding frames_of_seconds
read_neg r j k n h sum is =
    rw (read_digits (suc j) (omega arith))
    (ap (λ (v : ℤ). Some (int_div_euclid v (pos 2000000000))) (negative_units (suc j * r) k sum) ∙ ap (λ (q : ℕ). Some (negsuc q)) is)

time_pos : (r n : ℕ) → 8000 ≤ r → r ≤ 96000 → n ≤ 1099511627776 → frames_of_seconds r (time_text r (pos n)) ≡ Some (pos n)
unfolding time_text
time_pos r n low high h = read_pos r _ n (let f = few (2 * (n * 1000000000) + r) r (omega arith) low in omega arith) (back_pos n r _ (omega arith) (omega arith) refl)

time_neg_at : (r n k j : ℕ) → 8000 ≤ r → r ≤ 96000 → suc n ≤ 1099511627776 → k + r + 1 ≡ 2 * (suc n * 1000000000) → j ≡ k / (2 * r) → frames_of_seconds r (seconds_text (negsuc j)) ≡ Some (negsuc n)
time_neg_at r n k j low high h sum is =
    let f = few k r (omega arith) low in
    let q = quotient k r (omega arith) in
    let more : suc (k / (2 * r)) * r ≡ k / (2 * r) * r + r = omega arith in
    let big : 1000000000 + 1 ≤ 2 * (suc j * r) = rw is (omega (arith, q.1)) in
    read_neg r j (2 * (suc j * r) - 1000000000 - 1) n (omega arith) (omega arith) (back_neg n r k j (omega arith) (omega arith) sum is)

time_neg : (r n k : ℕ) → 8000 ≤ r → r ≤ 96000 → suc n ≤ 1099511627776 → k + r + 1 ≡ 2 * (suc n * 1000000000) → frames_of_seconds r (time_text r (negsuc n)) ≡ Some (negsuc n)
unfolding time_text
time_neg r n k low high h sum =
    ap (λ (v : ℤ). frames_of_seconds r (seconds_text (int_div_euclid v (pos (2 * r))))) (negative_sum n r k sum)
    ∙ time_neg_at r n k (k / (2 * r)) low high h sum refl

-- a time that was written is read as it was
pub time_back : (r : ℕ) (z : ℤ) → 8000 ≤ r → r ≤ 96000 → IsTime z → frames_of_seconds r (time_text r z) ≡ Some z
time_back r (pos n) low high h = time_pos r n low high (omega (arith, ints, h.1))
time_back r (negsuc n) low high h =
    let most : suc n ≤ 1099511627776 = omega (arith, ints, h.0) in
    time_neg r n (2 * (suc n * 1000000000) - r - 1) low high most (omega arith)
