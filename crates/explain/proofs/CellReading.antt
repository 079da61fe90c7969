-- Words that are those of 16 cells, or of none.
use Rattle.std.proofs.Common.{ℕ, suc, ℤ, pos, ◌≡◌, ◌≢◌, ◌+◌, ◌<◌, true, length, List, [], ◌∷◌, ◌++◌, map, take, drop, set, get_or, Option, Some, None, IfSome, Bor, inl, inr, refl, sym, ◌∙◌, ap, subst, arith, append_assoc, append-nil, length-append, length-take, take_all, ◌==◌, ◌≤◌}
use Rattle.std.specs.Fmt.{signed_decimal}
use Rattle.std.specs.List.{AllWithin}
use Rattle.std.specs.Option.{is_some, option_map_or}
use Rattle.std.proofs.lemmas.Bool.{false≢true}
use Rattle.std.proofs.lemmas.List.{length-map, map-append, take_more_set}
use Rattle.std.proofs.lemmas.List.Splits.{length-slice_split}
use Rattle.wa_base.specs.Numbers.{IsFix}
use Rattle.law_base.specs.Members.{IsIn}
use Rattle.explain.specs.declared.reading.words.Words.{Words}
use Rattle.explain.specs.Texts.{AreCells, cell_words}
use Rattle.explain.specs.LineReading.{words, words_left}

abbrev pub IsNoCell : List (List ℕ) → Type 0
IsNoCell left = (c : ℤ) (more : List (List ℕ)) → IsFix c → signed_decimal c ∷ more ≢ left

past : (front cells : List ℤ) (left : List (List ℕ)) → length front < length cells → ((c : ℤ) → IsIn c cells → IsFix c) → IsNoCell left → map signed_decimal cells ≢ map signed_decimal front ++ left
past front [] left short fix none same = omega (arith, short)
past [] (c ∷ cs) left short fix none same = none c (map signed_decimal cs) (fix c (inl refl)) same
past (x ∷ xs) (c ∷ cs) left short fix none same = past xs cs left (omega (arith, short)) (λ z h. fix z (inr h)) none (ap (drop 1) same)

module _ (given left : List (List ℕ)) (array : List ℤ) (i : ℕ) (whole : map signed_decimal (take i array) ++ left ≡ given) where
  -- what is left begins with no cell, and fewer than 16 cells stand before it
  pub no_sixteen : i < 16 → IsNoCell left → (cells : List ℤ) → AreCells cells → map signed_decimal cells ≢ given
  no_sixteen few none cells are same =
      let front = length-take i array in
      let all = are.sixteen in
      past (take i array) cells left (omega (arith, few, front, all)) are.fix none (same ∙ sym whole)

  -- one more cell was read
  pub one_more : (v : ℤ) (word : List ℕ) (rest : List (List ℕ)) → i < length array → left ≡ word ∷ rest → signed_decimal v ≡ word → map signed_decimal (take (i + 1) (set array i v)) ++ rest ≡ given
  one_more v word rest l cut is =
      ap (λ t. map signed_decimal t ++ rest) (take_more_set array i v l)
      ∙ ap (λ ws. ws ++ rest) (map-append signed_decimal (take i array) (v ∷ []))
      ∙ append_assoc (map signed_decimal (take i array)) (signed_decimal v ∷ []) rest
      ∙ ap (λ w. map signed_decimal (take i array) ++ w ∷ rest) is
      ∙ ap (λ ws. map signed_decimal (take i array) ++ ws) (sym cut)
      ∙ whole

  -- all cells are read, and a word is left
  pub too_long : 16 ≤ i → length array ≡ 16 → (word : List ℕ) (rest : List (List ℕ)) → left ≡ word ∷ rest → (cells : List ℤ) → AreCells cells → map signed_decimal cells ≢ given
  too_long many sixteen word rest cut cells are same =
      let long : map signed_decimal cells ≡ map signed_decimal (take i array) ++ word ∷ rest = same ∙ sym whole ∙ ap (λ ws. map signed_decimal (take i array) ++ ws) cut in
      let a = length-map cells signed_decimal in
      let b = length-map (take i array) signed_decimal in
      let d = length-take i array in
      let e = length-append (map signed_decimal (take i array)) (word ∷ rest) in
      let f : length (map signed_decimal cells) ≡ length (map signed_decimal (take i array) ++ word ∷ rest) = ap (λ ws. length ws) long in
      omega (arith, a, b, d, e, f, are.sixteen, sixteen, many)

  -- all cells are read, and no word is left
  pub all_read : length array ≤ i → left ≡ [] → map signed_decimal array ≡ given
  all_read many end =
      sym (ap (map signed_decimal) (take_all i array many)) ∙ sym (append-nil (map signed_decimal (take i array))) ∙ ap (λ ws. map signed_decimal (take i array) ++ ws) (sym end) ∙ whole

in_all : (cells : List ℤ) → ((k : ℕ) → k < length cells → IsFix (get_or cells k (pos 0))) → (c : ℤ) → IsIn c cells → IsFix c
in_all [] fix c none = absurd none
in_all (x ∷ xs) fix c (inl e) = subst IsFix (sym e) (fix 0 (omega arith))
in_all (x ∷ xs) fix c (inr h) = in_all xs (λ k l. fix (suc k) (omega (arith, l))) c h

pub are_cells : (cells : List ℤ) (i : ℕ) → length cells ≡ 16 → length cells ≤ i → AllWithin IsFix cells 0 i → AreCells cells
are_cells cells i sixteen many fix = record { sixteen = sixteen; fix = in_all cells (λ k l. fix k (pos 0) (omega arith) (omega (arith, l, many))) }

-- ---- the end of a line

some_left : (o : Option (Bor (List ℕ))) → is_some o ≡ true → [] ≢ option_map_or (λ rest. words rest.now) o []
some_left None is same = false≢true is
some_left (Some rest) is same = let some = length-slice_split (λ byte. byte == 32) rest.now in omega (arith, some, ap (λ (ws : List (List ℕ)). length ws) same)

-- words are left, and they are those of no 16 cells
pub no_cells : (left : Words) → is_some left.rest ≡ true → ((cells : List ℤ) → AreCells cells → map signed_decimal cells ≢ words_left left) → (cells : Option (List ℤ)) → IfSome cells AreCells → cell_words cells ≢ words_left left
no_cells left some none None are same = some_left left.rest some same
no_cells left some none (Some cells) are same = none cells are same
