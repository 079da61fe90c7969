-- What dashes make of a word.
use Rattle.std.proofs.Common.{◌≡◌, ◌∙◌, ℕ, ◌==◌, ◌&&◌, ◌||◌, Bool, cond, true, false, refl, sym, ap, ap₂, List, [], ◌∷◌, ◌++◌, Option, Some, None, is_some, bytes_eq}
use Rattle.std.specs.Prelude.{option_and_then}
use Rattle.std.specs.Char.{encode_utf8}
use Rattle.std.specs.Str.{chars, IsUtf8, encode_utf8_all}
use Rattle.std.proofs.lemmas.Str.{IsUtf8-past_char, encodes-chars}
use Rattle.std.proofs.lemmas.Bool.{eqb-true}
use Rattle.clap.specs.Lexer.{long_of, long_of_rest, short_of, short_of_rest, strip_byte}
use Rattle.clap.specs.Walk.{Text}
use Rattle.clap.proofs.OnLiterals.{clap_on_literals}
use Rattle.command_line.specs.WordByWord.{is_dashed}

abbrev pub dashes : Text
dashes = 45 ∷ 45 ∷ []

-- an option, with its name, and with its text where that is in the word
pub record IsOption (word : Text) (long : Text × Option Text) : Type 0 where
  pub other : bytes_eq word dashes ≡ false
  pub is : long_of word ≡ Some long

-- a word that is not dashed
pub record IsPlain (word : Text) : Type 0 where
  pub other : bytes_eq word dashes ≡ false
  pub no_long : long_of word ≡ None
  pub no_short : short_of word ≡ None

-- ---- letters behind a dash

abbrev IsShortWord : Text → Text → Type 0
IsShortWord word flags = (x : ℕ) × (rest : Text) × (flags ≡ x ∷ rest) × (word ≡ 45 ∷ flags)

pub no_text : {X : Type 0} (x : X) → ◌≡◌ {A = Option X} None (Some x) → ⊥
no_text x is = cc

behind_dash : (y : ℕ) (rest flags : Text) → y ≡ 45 → short_of_rest rest ≡ Some flags → IsShortWord (y ∷ rest) flags
behind_dash y [] flags dash is = absurd (no_text flags is)
behind_dash y (x ∷ rest) flags dash is = go (x == 45) is
  where
    go : (b : Bool) → ◌≡◌ {A = Option Text} (cond b None (Some (x ∷ rest))) (Some flags) → IsShortWord (y ∷ x ∷ rest) flags
    go true is = absurd (no_text flags is)
    go false is = let same : x ∷ rest ≡ flags = cc in (x, rest, sym same, ap₂ (λ a rest. a ∷ rest) dash same)

short_word_is : (word flags : Text) → short_of word ≡ Some flags → IsShortWord word flags
short_word_is [] flags is = absurd (no_text flags is)
short_word_is (y ∷ rest) flags is = go (y == 45) (eqb-true y 45) is
  where
    go : (b : Bool) → (b ≡ true → y ≡ 45) → option_and_then short_of_rest (cond b (Some rest) None) ≡ Some flags → IsShortWord (y ∷ rest) flags
    go true dash is = behind_dash y rest flags (dash refl) is
    go false dash is = absurd (no_text flags is)

encoded_dash : encode_utf8 45 ≡ 45 ∷ []
unfolding clap_on_literals
encoded_dash = refl

abbrev pub Begins : Text → Type 0
Begins flags = (x : ℕ) × (rest : Text) × (c : ℕ) × (cs : List ℕ) × (flags ≡ x ∷ rest) × (chars flags ≡ c ∷ cs)

pub first_letter : (word flags : Text) → IsUtf8 word → short_of word ≡ Some flags → Begins flags
first_letter word flags utf8 is =
    let short = short_word_is word flags is in
    let flags_are = IsUtf8-past_char word flags 45 utf8 (short.3 ∙ ap (λ front. front ++ flags) (sym encoded_dash)) in
    go (chars flags) refl (encodes-chars flags flags_are)
  where
    go : (cs : List ℕ) → chars flags ≡ cs → encode_utf8_all cs ≡ flags → Begins flags
    go [] none spelled = let short = short_word_is word flags is in let same : [] ≡ short.0 ∷ short.1 = spelled ∙ short.2 in absurd cc
    go (c ∷ cs) some spelled = let short = short_word_is word flags is in (short.0, short.1, c, cs, short.2, some)

second_letter : (y : ℕ) (b : Bool) (rest : Text)
    → true ≡ ((true && (b && bytes_eq rest [])) || (is_some (option_and_then long_of_rest (cond b (Some rest) None)) || is_some (cond b None (Some (y ∷ rest)))))
second_letter y true [] = refl
second_letter y true (z ∷ rest) = refl
second_letter y false rest = refl

-- by what is behind the first dash
abbrev is_dashed_rest : Option Text → Bool
is_dashed_rest rest = is_some (option_and_then long_of_rest (option_and_then (strip_byte 45) rest)) || is_some (option_and_then short_of_rest rest)

-- a word is dashed where it is `--`, an option, or a dash and letters
pub dashed_is : (word : Text) → is_dashed word ≡ (bytes_eq word dashes || (is_some (long_of word) || is_some (short_of word)))
dashed_is [] = refl
dashed_is (x ∷ []) = go (x == 45)
  where
    go : (b : Bool) → false ≡ ((b && false) || is_dashed_rest (cond b (Some []) None))
    go true = refl
    go false = refl
dashed_is (x ∷ y ∷ rest) = go (x == 45)
  where
    go : (a : Bool) → a ≡ ((a && bytes_eq (y ∷ rest) (45 ∷ [])) || is_dashed_rest (cond a (Some (y ∷ rest)) None))
    go true = second_letter y (y == 45) rest
    go false = refl
