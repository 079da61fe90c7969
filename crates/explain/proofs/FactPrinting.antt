-- What is printed of a fact is its text.
use Rattle.std.proofs.Common.{ℕ, ℤ, ◌≡◌, List, [], ◌∷◌, ◌++◌, map, Some, None, sym, ◌∙◌, ap, arith, codes, flat_map, append_assoc, append-nil}
use Rattle.std.specs.Fmt.{signed_decimal}
use Rattle.std.specs.List.{join_with_byte}
use Rattle.explain.specs.declared.facts.Key.{Key}
use Rattle.explain.specs.declared.facts.Key.TheVariants.{Count, Inlet, Par, Hist, Out}
use Rattle.explain.specs.declared.facts.Fact.{Fact}
use Rattle.explain.specs.Texts.{key_words, value_words, cell_words, key_text, cell_text, fact_text}

cells_joined : (w : List ℕ) (cells : List ℤ) → w ++ flat_map cell_text cells ≡ join_with_byte 32 (w ∷ map signed_decimal cells)
unfolding cell_text
cells_joined w [] = append-nil w
cells_joined w (c ∷ cs) = ap (λ xs. w ++ 32 ∷ xs) (cells_joined (signed_decimal c) cs)

key_joined : (k : Key) (w : List ℕ) (ws : List (List ℕ)) → key_text k ++ 32 ∷ join_with_byte 32 (w ∷ ws) ≡ join_with_byte 32 (key_words k (w ∷ ws))
unfolding key_text
key_joined (Count j e o) w ws = grind (arith, append_assoc)
key_joined (Inlet f e i c) w ws = grind (arith, append_assoc)
key_joined (Par f node name) w ws = grind (arith, append_assoc)
key_joined (Hist f node c) w ws = grind (arith, append_assoc)
key_joined (Out f e o c) w ws = grind (arith, append_assoc)

module _ (x : Fact) where
  -- the text without cells
  pub front_printed : x.cells ≡ None → key_text x.key ++ 32 ∷ 61 ∷ 32 ∷ signed_decimal x.value ≡ fact_text x
  unfolding fact_text
  front_printed is = key_joined x.key (codes "=") (signed_decimal x.value ∷ []) ∙ ap (λ cells. join_with_byte 32 (key_words x.key (value_words x.value (cell_words cells)))) (sym is)

  -- and with them
  pub cells_printed : (cells : List ℤ) → x.cells ≡ Some cells → (key_text x.key ++ 32 ∷ 61 ∷ 32 ∷ signed_decimal x.value) ++ flat_map cell_text cells ≡ fact_text x
  unfolding fact_text
  cells_printed cells is =
      append_assoc (key_text x.key) (32 ∷ 61 ∷ 32 ∷ signed_decimal x.value) (flat_map cell_text cells)
      ∙ ap (λ xs. key_text x.key ++ 32 ∷ 61 ∷ 32 ∷ xs) (cells_joined (signed_decimal x.value) cells)
      ∙ key_joined x.key (codes "=") (signed_decimal x.value ∷ map signed_decimal cells)
      ∙ ap (λ o. join_with_byte 32 (key_words x.key (value_words x.value (cell_words o)))) (sym is)
