-- What holds of the calls of every list, by going through the calls of a document.
use Rattle.std.proofs.Common.{◌≡◌, ◌≤◌, ◌+◌, ◌⊎◌, ℕ, List, [], ◌∷◌, ◌++◌, length, refl, Bool, true, false, inl, inr, arith}
use Rattle.std.specs.Prelude.{bytes_eq, if◌then◌else◌}
use Rattle.serde_json.specs.Data.{Data, null, boolean, number, string, array, object, Items, no_items, item, Members, no_members, member}
use Rattle.script_ast.specs.Fields.{field_word}
use Rattle.script_ast.specs.declared.fields.Field.TheVariants as field
use Rattle.script_json.proofs.TextLaws.{HasTexts, HaveTexts, HaveMemberTexts}
use Rattle.script_json.specs.Calls.{Placed, placed, held_by, then_calls, list_calls, has_then, name_in}
use Rattle.script_json.specs.Reading.{placed_at}

-- a call holds none, or it has the field for them
abbrev MayBeHeld : Data → List Placed → Type 0
MayBeHeld d held = (held ≡ []) ⊎ (has_then (name_in d) ≡ true)

held_if : (b : Bool) (calls : List Placed) → ((if b then calls else []) ≡ []) ⊎ (b ≡ true)
held_if true calls = inr refl
held_if false calls = inl refl

may_be_held : (d : Data) (n : ℕ) → MayBeHeld d (held_by d n)
unfolding placed
may_be_held null n = inl refl
may_be_held (boolean b) n = inl refl
may_be_held (number x) n = inl refl
may_be_held (string s) n = inl refl
may_be_held (array ds) n = inl refl
may_be_held (object ms) n = held_if (has_then (name_in (object ms))) (then_calls ms n)

-- P says something of the calls of a list that stands after n calls, with those that they hold
module _ (P : ℕ → ℕ → List Placed → Type 0) (none : (n holder : ℕ) → P n holder [])
    (next : (d : Data) (n holder : ℕ) (held rest : List Placed) → HasTexts d → holder ≤ n → (held ≡ []) ⊎ (has_then (name_in d) ≡ true)
    → P (n + 1) (n + 1) held → P (n + 1 + length held) holder rest → P n holder (placed_at (n + 1) holder d ∷ held ++ rest)) where
  all_if : (b : Bool) (n : ℕ) (calls : List Placed) → P n n calls → P n n (if b then calls else [])
  all_if true n calls h = h
  all_if false n calls h = none n n

  then_if : (b : Bool) (d : Data) (ms : Members) (n : ℕ) → P n n (list_calls d n) → P n n (then_calls ms n) → P n n (if b then list_calls d n else then_calls ms n)
  then_if true d ms n first second = first
  then_if false d ms n first second = second

  mutual
    unfolding placed

    pub placed_all : (ds : Items) (n holder : ℕ) → holder ≤ n → HaveTexts ds → P n holder (placed ds n holder)
    placed_all no_items n holder early texts = none n holder
    placed_all (item d ds) n holder early texts =
        let later : holder ≤ n + 1 + length (held_by d (n + 1)) = omega arith in
        next d n holder (held_by d (n + 1)) (placed ds (n + 1 + length (held_by d (n + 1))) holder) texts.0 early (may_be_held d (n + 1))
        (held_all d (n + 1) texts.0) (placed_all ds (n + 1 + length (held_by d (n + 1))) holder later texts.1)

    held_all : (d : Data) (n : ℕ) → HasTexts d → P n n (held_by d n)
    held_all null n texts = none n n
    held_all (boolean b) n texts = none n n
    held_all (number x) n texts = none n n
    held_all (string s) n texts = none n n
    held_all (array ds) n texts = none n n
    held_all (object ms) n texts = all_if (has_then (name_in (object ms))) n (then_calls ms n) (then_all ms n texts)

    then_all : (ms : Members) (n : ℕ) → HaveMemberTexts ms → P n n (then_calls ms n)
    then_all no_members n texts = none n n
    then_all (member key d ms) n texts = then_if (bytes_eq (field_word field.Then) key) d ms n (list_all d n texts.0) (then_all ms n texts.1)

    list_all : (d : Data) (n : ℕ) → HasTexts d → P n n (list_calls d n)
    list_all null n texts = none n n
    list_all (boolean b) n texts = none n n
    list_all (number x) n texts = none n n
    list_all (string s) n texts = none n n
    list_all (array ds) n texts = let here : n ≤ n = omega arith in placed_all ds n n here texts
    list_all (object ms) n texts = none n n
