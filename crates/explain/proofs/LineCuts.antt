-- The words of a fact's text are those of the fact.
use Rattle.std.proofs.Common.{ℕ, suc, ℤ, pos, negsuc, ◌≡◌, ◌<◌, ◌≤◌, ◌^◌, ◌==◌, List, [], ◌∷◌, ◌++◌, map, Bool, true, false, Option, Some, None, IfSome, inl, inr, refl, sym, ◌∙◌, ap, subst, arith, decimal, codes, if◌then◌else◌, nat_le}
use Rattle.std.specs.Fmt.{signed_decimal}
use Rattle.std.specs.List.{list_all, slice_split, onto_first, join_with_byte}
use Rattle.std.specs.Str.Parse.{AllDigits}
use Rattle.std.proofs.lemmas.Bool.{and_parts}
use Rattle.std.proofs.lemmas.Bool.Decides.{nat_tests}
use Rattle.std.proofs.lemmas.Fmt.{decimal_is_IsNumeral}
use Rattle.std.proofs.lemmas.Int.{ints}
use Rattle.std.proofs.lemmas.List.Splits.{slice_split-cons_no}
use Rattle.std.proofs.lemmas.Str.Parse.{tells_digits}
use Rattle.std.specs.Int.Signed.{mag}
use Rattle.wa_base.specs.Numbers.{IsFix}
use Rattle.wa_base.specs.GraphNames.{param_word}
use Rattle.wa_base.specs.declared.graph_names.End.{End}
use Rattle.wa_base.specs.declared.graph_names.ParamName.{ParamName}
use Rattle.wa_base.specs.declared.graph_names.ParamName.TheVariants.{Offset, Gain, DelayTime, PlaybackRate, Detune}
use Rattle.law_base.specs.Members.{IsIn}
use Rattle.explain.specs.declared.facts.Key.{Key}
use Rattle.explain.specs.declared.facts.Key.TheVariants.{Count, Inlet, Par, Hist, Out}
use Rattle.explain.specs.declared.facts.Fact.{Fact}
use Rattle.explain.specs.Texts.{IsSizedKey, AreCells, IsSized, end_text, key_words, value_words, cell_words, fact_words, fact_text}
use Rattle.explain.specs.LineReading.{words}

-- ---- texts without a mark

abbrev pub Without : ℕ → List ℕ → Type 0
Without mark [] = Unit {0}
Without mark (c ∷ cs) = (c ≡ mark → ⊥) × Without mark cs

pub without_append : (mark : ℕ) (xs ys : List ℕ) → Without mark xs → Without mark ys → Without mark (xs ++ ys)
without_append mark [] ys h k = k
without_append mark (x ∷ xs) ys h k = (h.0, without_append mark xs ys h.1 k)

pub has_mark : (mark : ℕ) (xs ys : List ℕ) → Without mark (xs ++ mark ∷ ys) → ⊥
has_mark mark [] ys h = h.0 refl
has_mark mark (x ∷ xs) ys h = has_mark mark xs ys h.1

abbrev pub cuts : ℕ → List ℕ → List (List ℕ)
cuts mark text = slice_split (λ byte. byte == mark) text

not_mark : (mark c : ℕ) → (c ≡ mark → ⊥) → (c == mark) ≡ false
not_mark mark c apart = grind (arith, nat_tests)

is_mark : (mark : ℕ) → (mark == mark) ≡ true
is_mark mark = grind (arith, nat_tests)

-- a text is cut behind its part in front of the first mark
pub cut_first : (mark : ℕ) (xs rest : List ℕ) → Without mark xs → cuts mark (xs ++ mark ∷ rest) ≡ xs ∷ cuts mark rest
cut_first mark [] rest h = rw (is_mark mark) refl
cut_first mark (x ∷ xs) rest h = slice_split-cons_no (λ byte. byte == mark) x (xs ++ mark ∷ rest) (not_mark mark x h.0) ∙ ap (onto_first x) (cut_first mark xs rest h.1)

-- and one without a mark is not cut
pub cut_none : (mark : ℕ) (xs : List ℕ) → Without mark xs → cuts mark xs ≡ xs ∷ []
cut_none mark [] h = refl
cut_none mark (x ∷ xs) h = slice_split-cons_no (λ byte. byte == mark) x xs (not_mark mark x h.0) ∙ ap (onto_first x) (cut_none mark xs h.1)

-- ---- numbers, ends and names have no spaces, and no ends of lines

pub digits_without : (mark : ℕ) (xs : List ℕ) → (mark < 48) → AllDigits 10 xs → Without mark xs
digits_without mark [] low h = tt
digits_without mark (c ∷ xs) low h = let p = tells_digits.parts c xs h in ((λ e. omega (arith, p.0, e)), digits_without mark xs low p.1)

pub digits_below : (mark : ℕ) (xs : List ℕ) → 57 < mark → AllDigits 10 xs → Without mark xs
digits_below mark [] high h = tt
digits_below mark (c ∷ xs) high h = let p = tells_digits.parts c xs h in ((λ e. omega (arith, p.0, e)), digits_below mark xs high p.1)

pub decimal_without : (mark n : ℕ) → mark < 48 → n < 2 ^ 64 → Without mark (decimal n)
decimal_without mark n low small = digits_without mark (decimal n) low (decimal_is_IsNumeral n small).0.1

pub signed_without : (mark : ℕ) (z : ℤ) → mark < 45 → mag z < 2 ^ 63 → Without mark (signed_decimal z)
signed_without mark (pos n) low small = decimal_without mark n (omega arith) (omega arith)
signed_without mark (negsuc n) low small = ((λ e. omega (arith, e)), decimal_without mark (suc n) (omega arith) (omega arith))

pub fix_small : (z : ℤ) → IsFix z → mag z < 2 ^ 63
fix_small (pos n) h = omega (arith, ints, h.1)
fix_small (negsuc n) h = omega (arith, ints, h.0)

letters_without : (mark : ℕ) (xs : List ℕ) → mark < 45 → list_all (nat_le 45) xs ≡ true → Without mark xs
letters_without mark [] low h = tt
letters_without mark (c ∷ cs) low h =
    let parts = and_parts (nat_le 45 c) (list_all (nat_le 45) cs) h in
    ((λ e. let l = high c parts.0 in omega (arith, e, l)), letters_without mark cs low parts.1)
  where
    high : (c : ℕ) → nat_le 45 c ≡ true → 45 ≤ c
    high c h = grind (arith, nat_tests)

end_without : (mark : ℕ) (e : End) → mark < 45 → e.node.0 < 2 ^ 32 → Without mark (end_text e)
end_without mark e low small = without_append mark (decimal e.node.0) _ (decimal_without mark e.node.0 (omega arith) (omega arith)) (by_end e.writer)
  where
    by_end : (w : Bool) → Without mark (if w then codes "w" else [])
    by_end true = letters_without mark (codes "w") low refl
    by_end false = tt

name_without : (mark : ℕ) (n : ParamName) → mark < 45 → Without mark (param_word n)
name_without mark Offset low = letters_without mark (codes "offset") low refl
name_without mark Gain low = letters_without mark (codes "gain") low refl
name_without mark DelayTime low = letters_without mark (codes "delayTime") low refl
name_without mark PlaybackRate low = letters_without mark (codes "playbackRate") low refl
name_without mark Detune low = letters_without mark (codes "detune") low refl

-- ---- lists of words

abbrev pub AllWithout : ℕ → List (List ℕ) → Type 0
AllWithout mark [] = Unit {0}
AllWithout mark (w ∷ ws) = Without mark w × AllWithout mark ws

-- words with a space between each two are cut into these
pub cut_join : (w : List ℕ) (ws : List (List ℕ)) → AllWithout 32 (w ∷ ws) → words (join_with_byte 32 (w ∷ ws)) ≡ w ∷ ws
cut_join w [] h = cut_none 32 w h.0
cut_join w (v ∷ vs) h = cut_first 32 w (join_with_byte 32 (v ∷ vs)) h.0 ∙ ap (λ ws. w ∷ ws) (cut_join v vs h.1)

pub join_without : (mark : ℕ) (w : List ℕ) (ws : List (List ℕ)) → (32 ≡ mark → ⊥) → AllWithout mark (w ∷ ws) → Without mark (join_with_byte 32 (w ∷ ws))
join_without mark w [] apart h = h.0
join_without mark w (v ∷ vs) apart h = without_append mark w (32 ∷ join_with_byte 32 (v ∷ vs)) h.0 (apart, join_without mark v vs apart h.1)

-- ---- the words of a fact

pub fact_joined : (x : Fact) → fact_text x ≡ join_with_byte 32 (fact_words x)
unfolding fact_text
fact_joined x = refl

module _ (mark : ℕ) (low : mark < 45) where
  of_number : (n : ℕ) → n < 2 ^ 64 → Without mark (decimal n)
  of_number n small = decimal_without mark n (omega (arith, low)) small

  key_without : (k : Key) (more : List (List ℕ)) → IsSizedKey k → AllWithout mark more → AllWithout mark (key_words k more)
  key_without (Count j e o) more h all = (letters_without mark (codes "count") low refl, (of_number j h.0, (end_without mark e low h.1, (of_number o (omega (arith, h.2)), all))))
  key_without (Inlet f e i c) more h all =
      (letters_without mark (codes "in") low refl, (of_number f h.0, (end_without mark e low h.1, (of_number i (omega (arith, h.2)), (of_number c (omega (arith, h.3)), all)))))
  key_without (Par f node name) more h all = (letters_without mark (codes "par") low refl, (of_number f h.0, (of_number node.0 (omega (arith, h.1)), (name_without mark name low, all))))
  key_without (Hist f node c) more h all =
      (letters_without mark (codes "hist") low refl, (of_number f h.0, (of_number node.0 (omega (arith, h.1)), (of_number c (omega (arith, h.2)), all))))
  key_without (Out f e o c) more h all =
      (letters_without mark (codes "out") low refl, (of_number f h.0, (end_without mark e low h.1, (of_number o (omega (arith, h.2)), (of_number c (omega (arith, h.3)), all)))))

  cells_without : (cells : List ℤ) → ((c : ℤ) → IsIn c cells → IsFix c) → AllWithout mark (map signed_decimal cells)
  cells_without [] fix = tt
  cells_without (c ∷ cs) fix = (signed_without mark c low (fix_small c (fix c (inl refl))), cells_without cs (λ z h. fix z (inr h)))

  some_without : (cells : Option (List ℤ)) → IfSome cells AreCells → AllWithout mark (cell_words cells)
  some_without None are = tt
  some_without (Some cells) are = cells_without cells are.fix

  pub words_without : (x : Fact) → IsSized x → AllWithout mark (fact_words x)
  words_without x h = key_without x.key _ h.key (letters_without mark (codes "=") low refl, (signed_without mark x.value low h.value.sfits, some_without x.cells h.cells))

pub key_first : (k : Key) (more : List (List ℕ)) → (w : List ℕ) × (ws : List (List ℕ)) × (key_words k more ≡ w ∷ ws)
key_first (Count j e o) more = (_, _, refl)
key_first (Inlet f e i c) more = (_, _, refl)
key_first (Par f node name) more = (_, _, refl)
key_first (Hist f node c) more = (_, _, refl)
key_first (Out f e o c) more = (_, _, refl)

-- the text of a fact is cut into the words of the fact
pub words_of_fact : (x : Fact) → IsSized x → words (fact_text x) ≡ fact_words x
words_of_fact x h = by_first (fact_words x) (key_first x.key (value_words x.value (cell_words x.cells))) (words_without 32 (omega arith) x h) (fact_joined x)
  where
    by_first : (ws : List (List ℕ)) → (v : List ℕ) × (vs : List (List ℕ)) × (ws ≡ v ∷ vs) → AllWithout 32 ws → fact_text x ≡ join_with_byte 32 ws → words (fact_text x) ≡ ws
    by_first ws (v, vs, e) all is = ap words (is ∙ ap (join_with_byte 32) e) ∙ cut_join v vs (subst (AllWithout 32) e all) ∙ sym e

-- and holds no end of a line
pub text_without : (x : Fact) → IsSized x → Without 10 (fact_text x)
text_without x h = by_first (fact_words x) (key_first x.key (value_words x.value (cell_words x.cells))) (words_without 10 (omega arith) x h) (fact_joined x)
  where
    by_first : (ws : List (List ℕ)) → (v : List ℕ) × (vs : List (List ℕ)) × (ws ≡ v ∷ vs) → AllWithout 10 ws → fact_text x ≡ join_with_byte 32 ws → Without 10 (fact_text x)
    by_first ws (v, vs, e) all is = subst (Without 10) (sym (is ∙ ap (join_with_byte 32) e)) (join_without 10 v vs (λ apart. omega (arith, apart)) (subst (AllWithout 10) e all))
