-- A new name is a text.
use Rattle.std.proofs.Common.{◌≡◌, ◌<◌, ◌≤◌, ◌||◌, ◌==◌, ◌⊎◌, ℕ, zero, suc, List, [], ◌∷◌, Bool, true, false, refl, arith, inl, inr, get_or}
use Rattle.std.specs.Char.{is_ascii_alphanumeric}
use Rattle.std.specs.Int.{is_in_range}
use Rattle.std.proofs.lemmas.Bool.{and_parts, leb-true, eqb-true}
use Rattle.std.proofs.lemmas.Str.{IsUtf8-from_ascii, is_utf8-from_IsUtf8}
use Rattle.script_ast.specs.Ranges.{is_name_byte, has_name_bytes, is_new_name, IsNewName, IsText}

either : (a b : Bool) → (a || b) ≡ true → (a ≡ true) ⊎ (b ≡ true)
either true b h = inl refl
either false b h = inr h

low : (least most c : ℕ) → is_in_range least most c ≡ true → most < 128 → c < 128
low least most c h below = let e : c ≤ most = leb-true c most (and_parts _ _ h).1 in omega arith

letter_or_digit : (c : ℕ) → is_ascii_alphanumeric c ≡ true → c < 128
letter_or_digit c h = elim (either (is_in_range 48 57 c || is_in_range 65 90 c) (is_in_range 97 122 c) h) [
  | inl first ↦ elim (either (is_in_range 48 57 c) (is_in_range 65 90 c) first) [
    | inl digit ↦ low 48 57 c digit (omega arith)
    | inr upper ↦ low 65 90 c upper (omega arith)
  ]
  | inr lower ↦ low 97 122 c lower (omega arith)
]

below_128 : (c : ℕ) → is_name_byte c ≡ true → c < 128
below_128 c h = elim (either (is_ascii_alphanumeric c || c == 95) (c == 45) h) [
  | inl first ↦ elim (either (is_ascii_alphanumeric c) (c == 95) first) [
    | inl letter ↦ letter_or_digit c letter
    | inr line ↦ let is : c ≡ 95 = eqb-true c 95 line in omega arith
  ]
  | inr dash ↦ let is : c ≡ 45 = eqb-true c 45 dash in omega arith
]

ascii_at : (name : List ℕ) → has_name_bytes name ≡ true → (i : ℕ) → get_or name i 0 < 128
ascii_at [] h i = omega arith
ascii_at (c ∷ name) h zero = below_128 c (and_parts _ _ h).0
ascii_at (c ∷ name) h (suc i) = ascii_at name (and_parts _ _ h).1 i

-- a name that may be given is ASCII
pub new_name_is_text : (name : List ℕ) → IsNewName name → IsText name
unfolding is_new_name
new_name_is_text name new =
    let bytes : has_name_bytes name ≡ true = (and_parts _ _ (and_parts _ _ new).0).1 in
    is_utf8-from_IsUtf8 name (IsUtf8-from_ascii name (ascii_at name bytes))
