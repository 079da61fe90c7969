-- A text that is that of no fact, and one that is that of a fact.
use Rattle.std.proofs.Common.{ℕ, ℤ, suc, zero, ◌≡◌, ◌≢◌, ◌<◌, ◌^◌, true, List, [], ◌∷◌, map, Bool, false, Option, Some, None, IfSome, inl, inr, refl, sym, ◌∙◌, ap, subst, arith, codes, decimal, drop, if◌then◌else◌, nat_lt, FitsSigned, w64, IsAscii, IsUtf8}
use Rattle.std.specs.Fmt.{signed_decimal}
use Rattle.std.specs.List.{list_all, join_with_byte}
use Rattle.std.proofs.lemmas.Bool.{and_parts}
use Rattle.std.proofs.lemmas.Bool.Decides.{nat_tests}
use Rattle.std.proofs.lemmas.Fmt.{IsAscii-decimal, IsAscii-signed}
use Rattle.std.proofs.lemmas.List.Splits.{join_with_byte-slice_split}
use Rattle.std.proofs.lemmas.Str.{IsAscii-append, IsUtf8-from_ascii}
use Rattle.wa_base.specs.Numbers.{IsFix}
use Rattle.wa_base.specs.GraphNames.{param_word}
use Rattle.wa_base.specs.declared.graph_names.End.{End}
use Rattle.wa_base.specs.declared.graph_names.ParamName.{ParamName}
use Rattle.wa_base.specs.declared.graph_names.ParamName.TheVariants.{Offset, Gain, DelayTime, PlaybackRate, Detune}
use Rattle.law_base.specs.Members.{IsIn}
use Rattle.explain.specs.declared.facts.Key.{Key}
use Rattle.explain.specs.declared.facts.Key.TheVariants.{Count, Inlet, Par, Hist, Out}
use Rattle.explain.specs.declared.facts.Fact.{Fact}
use Rattle.explain.specs.Texts.{IsSizedKey, AreCells, IsSized, end_text, key_words, value_words, cell_words, fact_words, fact_text}
use Rattle.explain.specs.LineReading.{words}
use Rattle.explain.proofs.LineCuts.{fact_joined, words_of_fact, key_first, fix_small}
use Rattle.explain.proofs.TextLaws.{same_key}
use Rattle.explain.proofs.KeyReading.{IsNoKey}

abbrev pub IsNoFact : List ℕ → Type 0
IsNoFact text = (x : Fact) → IsSized x → fact_text x ≢ text

module _ (text : List ℕ) where
  fact_cut : (x : Fact) → IsSized x → fact_text x ≡ text → fact_words x ≡ words text
  fact_cut x sized same = sym (words_of_fact x sized) ∙ ap words same

  pub no_key : IsNoKey (words text) → IsNoFact text
  no_key none x sized same = none x.key (value_words x.value (cell_words x.cells)) sized.key (fact_cut x sized same)

  module _ (k : Key) (behind : List (List ℕ)) (key_sized : IsSizedKey k) (key_is : key_words k behind ≡ words text) where
    value_cut : (x : Fact) → IsSized x → fact_text x ≡ text → value_words x.value (cell_words x.cells) ≡ behind
    value_cut x sized same = (same_key (value_words x.value (cell_words x.cells)) behind x.key k sized.key key_sized (fact_cut x sized same ∙ sym key_is)).1

    pub no_value : ((v : ℤ) (more : List (List ℕ)) → FitsSigned w64 v → value_words v more ≢ behind) → IsNoFact text
    no_value none x sized same = none x.value (cell_words x.cells) sized.value (value_cut x sized same)

    pub no_cells : (v : ℤ) (rest : List (List ℕ)) → value_words v rest ≡ behind → ((cells : Option (List ℤ)) → IfSome cells AreCells → cell_words cells ≢ rest) → IsNoFact text
    no_cells v rest value_is none x sized same = none x.cells sized.cells (ap (drop 2) (value_cut x sized same ∙ sym value_is))

  is_fact : (x : Fact) (behind rest : List (List ℕ)) → key_words x.key behind ≡ words text → value_words x.value rest ≡ behind → cell_words x.cells ≡ rest → fact_text x ≡ text
  is_fact x behind rest key_is value_is cells_are =
      let all : fact_words x ≡ words text = ap (λ ws. key_words x.key (value_words x.value ws)) cells_are ∙ ap (key_words x.key) value_is ∙ key_is in
      fact_joined x ∙ ap (join_with_byte 32) all ∙ join_with_byte-slice_split 32 text

  pub fact_is_read : (k : Key) (v : ℤ) (cells : Option (List ℤ)) (behind rest : List (List ℕ)) → IsSizedKey k × (key_words k behind ≡ words text) → FitsSigned w64 v × (value_words v rest ≡ behind) → IfSome cells AreCells × (cell_words cells ≡ rest)
      → let x : Fact = record { key = k; value = v; cells = cells } in IsSized x × (fact_text x ≡ text)
  fact_is_read k v cells behind rest of_key of_value of_cells =
      let x : Fact = record { key = k; value = v; cells = cells } in
      (record { key = of_key.0; value = of_value.0; cells = of_cells.0 }, is_fact x behind rest of_key.1 of_value.1 of_cells.1)

-- ---- the text of a fact is ASCII

letters : (xs : List ℕ) → list_all (λ c. nat_lt c 128) xs ≡ true → IsAscii xs
letters [] low i = omega arith
letters (c ∷ cs) low zero = let parts = and_parts (nat_lt c 128) (list_all (λ d. nat_lt d 128) cs) low in below c parts.0
  where
    below : (c : ℕ) → nat_lt c 128 ≡ true → c < 128
    below c low = grind (arith, nat_tests)
letters (c ∷ cs) low (suc i) = letters cs (and_parts (nat_lt c 128) (list_all (λ d. nat_lt d 128) cs) low).1 i

abbrev AllAscii : List (List ℕ) → Type 0
AllAscii [] = Unit {0}
AllAscii (w ∷ ws) = IsAscii w × AllAscii ws

joined : (w : List ℕ) (ws : List (List ℕ)) → AllAscii (w ∷ ws) → IsAscii (join_with_byte 32 (w ∷ ws))
joined w [] h = h.0
joined w (v ∷ vs) h = IsAscii-append w (32 ∷ join_with_byte 32 (v ∷ vs)) h.0 (IsAscii-append (32 ∷ []) (join_with_byte 32 (v ∷ vs)) (letters (32 ∷ []) refl) (joined v vs h.1))

number : (n : ℕ) → n < 2 ^ 64 → IsAscii (decimal n)
number n small = IsAscii-decimal n small

end_ascii : (e : End) → e.node.0 < 2 ^ 32 → IsAscii (end_text e)
end_ascii e small = IsAscii-append (decimal e.node.0) _ (number e.node.0 (omega (arith, small))) (by_writer e.writer)
  where
    by_writer : (w : Bool) → IsAscii (if w then codes "w" else [])
    by_writer true = letters (codes "w") refl
    by_writer false = letters [] refl

name_ascii : (n : ParamName) → IsAscii (param_word n)
name_ascii Offset = letters (codes "offset") refl
name_ascii Gain = letters (codes "gain") refl
name_ascii DelayTime = letters (codes "delayTime") refl
name_ascii PlaybackRate = letters (codes "playbackRate") refl
name_ascii Detune = letters (codes "detune") refl

key_ascii : (k : Key) (more : List (List ℕ)) → IsSizedKey k → AllAscii more → AllAscii (key_words k more)
key_ascii (Count j e o) more h all = (letters (codes "count") refl, (number j h.0, (end_ascii e h.1, (number o (omega (arith, h.2)), all))))
key_ascii (Inlet f e i c) more h all = (letters (codes "in") refl, (number f h.0, (end_ascii e h.1, (number i (omega (arith, h.2)), (number c (omega (arith, h.3)), all)))))
key_ascii (Par f node name) more h all = (letters (codes "par") refl, (number f h.0, (number node.0 (omega (arith, h.1)), (name_ascii name, all))))
key_ascii (Hist f node c) more h all = (letters (codes "hist") refl, (number f h.0, (number node.0 (omega (arith, h.1)), (number c (omega (arith, h.2)), all))))
key_ascii (Out f e o c) more h all = (letters (codes "out") refl, (number f h.0, (end_ascii e h.1, (number o (omega (arith, h.2)), (number c (omega (arith, h.3)), all)))))

cells_ascii : (cells : List ℤ) → ((c : ℤ) → IsIn c cells → IsFix c) → AllAscii (map signed_decimal cells)
cells_ascii [] fix = tt
cells_ascii (c ∷ cs) fix = (IsAscii-signed c (fix_small c (fix c (inl refl))), cells_ascii cs (λ z h. fix z (inr h)))

some_ascii : (cells : Option (List ℤ)) → IfSome cells AreCells → AllAscii (cell_words cells)
some_ascii None are = tt
some_ascii (Some cells) are = cells_ascii cells are.fix

words_ascii : (x : Fact) → IsSized x → AllAscii (fact_words x)
words_ascii x h = key_ascii x.key _ h.key (letters (codes "=") refl, (IsAscii-signed x.value h.value.sfits, some_ascii x.cells h.cells))

pub fact_utf8 : (x : Fact) → IsSized x → IsUtf8 (fact_text x)
fact_utf8 x h = by_first (fact_words x) (key_first x.key (value_words x.value (cell_words x.cells))) (words_ascii x h) (fact_joined x)
  where
    by_first : (ws : List (List ℕ)) → (v : List ℕ) × (vs : List (List ℕ)) × (ws ≡ v ∷ vs) → AllAscii ws → fact_text x ≡ join_with_byte 32 ws → IsUtf8 (fact_text x)
    by_first ws (v, vs, e) all is = IsUtf8-from_ascii (fact_text x) (subst IsAscii (sym (is ∙ ap (join_with_byte 32) e)) (joined v vs (subst AllAscii e all)))

pub no_text : (line : List ℕ) → (IsUtf8 line → ⊥) → IsNoFact line
no_text line none x sized same = none (subst IsUtf8 same (fact_utf8 x sized))
