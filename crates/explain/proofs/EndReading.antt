-- A word that is that of no end.
use Rattle.std.proofs.Common.{ℕ, ◌≡◌, ◌≢◌, ◌<◌, ◌^◌, List, [], ◌∷◌, ◌++◌, Bool, true, false, sym, ◌∙◌, subst, arith, decimal, codes, append-nil, if◌then◌else◌}
use Rattle.std.proofs.lemmas.Fmt.{decimal_is_IsNumeral}
use Rattle.wa_base.specs.declared.graph_names.End.{End}
use Rattle.explain.specs.Texts.{end_text}
use Rattle.explain.proofs.LineCuts.{Without, has_mark, digits_below}
use Rattle.explain.proofs.TextLaws.{end_front}

abbrev pub IsNoNumber : List ℕ → Type 0
IsNoNumber text = (n : ℕ) → n < 2 ^ 32 → decimal n ≢ text

-- a word with a `w` behind what is no number
pub no_writer : (word digits : List ℕ) → word ≡ digits ++ codes "w" → IsNoNumber digits → (e : End) → e.node.0 < 2 ^ 32 → end_text e ≢ word
no_writer word digits is none e small same = by_writer e.node.0 e.writer small (same ∙ is)
  where
    by_writer : (n : ℕ) (writer : Bool) → n < 2 ^ 32 → decimal n ++ (if writer then codes "w" else []) ≢ digits ++ codes "w"
    by_writer n true small same = none n small (end_front (decimal n) digits same)
    by_writer n false small same =
        has_mark 119 digits [] (subst (Without 119) (sym (append-nil (decimal n)) ∙ same) (digits_below 119 (decimal n) (omega arith) (decimal_is_IsNumeral n (omega arith)).0.1))

-- and one without it that is no number
pub no_reader : (word : List ℕ) → ((front : List ℕ) → word ≢ front ++ 119 ∷ []) → IsNoNumber word → (e : End) → e.node.0 < 2 ^ 32 → end_text e ≢ word
no_reader word plain none e small same = by_writer e.node.0 e.writer small same
  where
    by_writer : (n : ℕ) (writer : Bool) → n < 2 ^ 32 → decimal n ++ (if writer then codes "w" else []) ≢ word
    by_writer n true small same = plain (decimal n) (sym same)
    by_writer n false small same = none n small (sym (append-nil (decimal n)) ∙ same)
