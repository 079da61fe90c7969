-- What it is to read a line by its words.
use Rattle.std.specs.Prelude.{ℕ, ◌==◌, ◌≡◌, ◌≢◌, List, [], ◌∷◌, codes, Option, MatchOption, slice_index, length}
use Rattle.std.specs.List.{slice_split}
use Rattle.std.specs.Option.{option_map_or}
use Rattle.explain.specs.declared.reading.words.Words.{Words}

-- the words of a text, which is cut at each space
abbrev pub words : List ℕ → List (List ℕ)
words text = slice_split (λ byte. byte == 32) text

-- the words that are still to be read
abbrev pub words_left : Words → List (List ℕ)
words_left w = option_map_or (λ rest. words rest.now) w.rest []

-- What is given is read as a thing that fits and is written so, and as nothing where no such thing is written so.
abbrev pub IsReading : {T W : Type 0} → (T → Type 0) → (T → W) → W → Option T → Type 0
IsReading fits written given result = MatchOption result ((x : _) → fits x → written x ≢ given) (λ x. fits x × (written x ≡ given))

-- The same of the front of a list of words, and the words that are left behind it.
abbrev pub IsTaken : {T : Type 0} → (T → Type 0) → (T → List (List ℕ) → List (List ℕ)) → List (List ℕ) → Option T → List (List ℕ) → Type 0
IsTaken fits written given result left =
    MatchOption result ((x : _) (more : List (List ℕ)) → fits x → written x more ≢ given) (λ x. fits x × (written x left ≡ given))

-- a number without a sign and without a zero in front
pub record IsPlain (text : List ℕ) : Type 0 where
  pub sign : slice_index text 0 ≢ 43
  pub zero : slice_index text 0 ≡ 48 → length text ≡ 1

-- the same behind a minus sign, where there is one; behind it stands no zero
pub record IsPlainSigned (text : List ℕ) : Type 0 where
  pub plain : IsPlain text
  pub behind : (digits : List ℕ) → text ≡ 45 ∷ digits → IsPlain digits × (digits ≢ codes "0")
