-- A word is cut off the words that are left.
use Rattle.std.proofs.Common.{ℕ, ◌≡◌, ◌≢◌, ◌<◌, ◌==◌, length, List, [], ◌∷◌, Some, Bor, sym, ◌∙◌, ap, ap₂, get_or, arith}
use Rattle.std.specs.List.{position_or_len, before_first, after_first}
use Rattle.std.specs.Option.{option_map_or}
use Rattle.std.specs.Str.{NoCharPasses}
use Rattle.std.proofs.lemmas.Bool.{ne_eqb}
use Rattle.std.proofs.lemmas.List.{get_or_default}
use Rattle.std.proofs.lemmas.List.Splits.{slice_split_first, slice_split_none}
use Rattle.std.proofs.lemmas.Str.Pattern.{NoCharPasses-char}
use Rattle.explain.specs.declared.reading.words.Words.{Words}
use Rattle.explain.specs.LineReading.{words, words_left}

text_left : (s : Words) (text : Bor (List ℕ)) → s.rest ≡ Some text → words_left s ≡ words text.now
text_left s text is = ap (λ r. option_map_or (λ (x : Bor (List ℕ)). words x.now) r []) is

pub word_first : (s : Words) (text word rest : Bor (List ℕ)) → s.rest ≡ Some text → word.now ≡ before_first (λ b. b == 32) text.now → rest.now ≡ after_first (λ b. b == 32) text.now
    → position_or_len (λ b. b == 32) text.now < length text.now → words_left s ≡ word.now ∷ words rest.now
word_first s text word rest is front back l =
    text_left s text is ∙ slice_split_first (λ b. b == 32) text.now 0 l ∙ ap₂ (λ w r. w ∷ words r) (sym front) (sym back)

pub word_last : (s : Words) (text : Bor (List ℕ)) → s.rest ≡ Some text → NoCharPasses (λ b. b == 32) text.now → words_left s ≡ text.now ∷ []
word_last s text is none = text_left s text is ∙ slice_split_none (λ b. b == 32) text.now (λ k d l. ne_eqb _ 32 (apart k d l))
  where
    apart : (k d : ℕ) → k < length text.now → get_or text.now k d ≢ 32
    apart k d l e = NoCharPasses-char 32 text.now k none (omega arith) l (get_or_default text.now k 0 d l ∙ e)
