-- A text that is cut at its first mark, and the number that digits spell.
use Rattle.std.proofs.Common.{◌≡◌, ◌<◌, ◌≤◌, ◌+◌, ◌*◌, ◌==◌, ℕ, List, [], ◌∷◌, ◌++◌, length, true, false, refl, arith, length-append, eq-eqb, ne_eqb, lt-ltb, le-ltb}
use Rattle.std.specs.Prelude.{⊤, is_some}
use Rattle.std.specs.Char.{digit_value}
use Rattle.std.specs.List.{position, position_or_len, before_first, after_first}
use Rattle.std.specs.Str.{all_ascii_digits}
use Rattle.std.specs.Str.Parse.{AllDigits, digits_value_after, starts_with_minus}
use Rattle.std.proofs.Math.Seq.{take-append_seam, drop-append-add}
use Rattle.std.proofs.lemmas.Str.Parse.{tells_digits, tells_all_ascii_digits}

-- ---- marks

-- no byte is the mark
abbrev pub Without : ℕ → List ℕ → Type 0
Without mark [] = ⊤
Without mark (c ∷ cs) = ((c == mark) ≡ false) × Without mark cs

pub cut_place : (mark : ℕ) (xs ys : List ℕ) → Without mark xs → position_or_len (λ c. c == mark) (xs ++ mark ∷ ys) ≡ length xs
cut_place mark [] ys h = rw (eq-eqb mark mark refl) refl
cut_place mark (c ∷ xs) ys h = rw (h.0) (omega (arith, cut_place mark xs ys h.1))

pub cut_none : (mark : ℕ) (xs : List ℕ) → Without mark xs → position_or_len (λ c. c == mark) xs ≡ length xs
cut_none mark [] h = refl
cut_none mark (c ∷ xs) h = rw (h.0) (omega (arith, cut_none mark xs h.1))

pub cut_before : (mark : ℕ) (xs ys : List ℕ) → Without mark xs → before_first (λ c. c == mark) (xs ++ mark ∷ ys) ≡ xs
cut_before mark xs ys h = rw (cut_place mark xs ys h) (take-append_seam xs (mark ∷ ys))

pub cut_after : (mark : ℕ) (xs ys : List ℕ) → Without mark xs → after_first (λ c. c == mark) (xs ++ mark ∷ ys) ≡ ys
cut_after mark xs ys h = rw (cut_place mark xs ys h) (drop-append-add xs (mark ∷ ys) 1)

pub cut_there : (mark : ℕ) (xs ys : List ℕ) → Without mark xs → is_some (position (λ c. c == mark) (xs ++ mark ∷ ys)) ≡ true
cut_there mark xs ys h =
    let less : position_or_len (λ c. c == mark) (xs ++ mark ∷ ys) < length (xs ++ mark ∷ ys) = omega (arith, cut_place mark xs ys h, length-append xs (mark ∷ ys)) in
    rw (lt-ltb _ _ less) refl

pub cut_absent : (mark : ℕ) (xs : List ℕ) → Without mark xs → is_some (position (λ c. c == mark) xs) ≡ false
cut_absent mark xs h =
    let most : length xs ≤ position_or_len (λ c. c == mark) xs = omega (arith, cut_none mark xs h) in
    rw (le-ltb _ _ most) refl

-- ---- digits

pub digits_without : (mark : ℕ) (xs : List ℕ) → mark < 48 → AllDigits 10 xs → Without mark xs
digits_without mark [] low h = tt
digits_without mark (c ∷ xs) low h =
    let p = tells_digits.parts c xs h in
    (ne_eqb c mark (λ e. omega (arith, p.0)), digits_without mark xs low p.1)

pub digits_all_ascii : (xs : List ℕ) → AllDigits 10 xs → all_ascii_digits xs ≡ true
digits_all_ascii [] h = refl
digits_all_ascii (c ∷ xs) h = let p = tells_digits.parts c xs h in tells_all_ascii_digits.more c xs p.0 (digits_all_ascii xs p.1)

pub digits_no_minus : (xs ys : List ℕ) → AllDigits 10 xs → 0 < length xs → starts_with_minus (xs ++ ys) ≡ false
digits_no_minus [] ys h some = absurd (omega arith)
digits_no_minus (c ∷ xs) ys h some = let p = tells_digits.parts c xs h in ne_eqb c 45 (λ e. omega (arith, p.0))

pub AllDigits-append : (xs ys : List ℕ) → AllDigits 10 xs → AllDigits 10 ys → AllDigits 10 (xs ++ ys)
AllDigits-append [] ys h k = k
AllDigits-append (c ∷ xs) ys h k = (h.0, AllDigits-append xs ys h.1 k)

pub value_append : (a : ℕ) (xs ys : List ℕ) → digits_value_after 10 a (xs ++ ys) ≡ digits_value_after 10 (digits_value_after 10 a xs) ys
value_append a [] ys = refl
value_append a (c ∷ xs) ys = value_append (a * 10 + digit_value c) xs ys
