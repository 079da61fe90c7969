-- Facts as text. Each line ends with one byte 10.
use Rattle.std.specs.Prelude.{ℕ, ◌≡◌, ◌<◌, ◌≤◌, ◌^◌, FitsSigned, IfSome, ℤ, length, List, [], ◌∷◌, ◌++◌, map, flat_map, codes, decimal, if◌then◌else◌, Option, None, Some}
use Rattle.std.specs.List.{join_with_byte}
use Rattle.std.specs.Fmt.{signed_decimal}
use Rattle.std.specs.Int.{w64}
use Rattle.wa_base.specs.GraphNames.{param_word}
use Rattle.wa_base.specs.Numbers.{IsFix}
use Rattle.wa_base.specs.declared.graph_names.End.{End}
use Rattle.law_base.specs.Members.{IsIn}
use Rattle.meaning.specs.declared.world.World.{World}
use Rattle.explain.specs.declared.facts.Key.{Key}
use Rattle.explain.specs.declared.facts.Key.TheVariants.{Count, Inlet, Par, Hist, Out}
use Rattle.explain.specs.declared.facts.Fact.{Fact}
use Rattle.explain.specs.Checked.{IsChecked}

-- an end is its node's number, with a `w` behind it where it is a writer
abbrev pub end_text : End → List ℕ
end_text e = decimal e.node.0 ++ (if e.writer then codes "w" else [])

-- the words of a key, and those behind it; numbers have no sign and no zero in front
abbrev pub key_words : Key → List (List ℕ) → List (List ℕ)
key_words (Count j e o) more = codes "count" ∷ decimal j ∷ end_text e ∷ decimal o ∷ more
key_words (Inlet f e i c) more = codes "in" ∷ decimal f ∷ end_text e ∷ decimal i ∷ decimal c ∷ more
key_words (Par f node name) more = codes "par" ∷ decimal f ∷ decimal node.0 ∷ param_word name ∷ more
key_words (Hist f node c) more = codes "hist" ∷ decimal f ∷ decimal node.0 ∷ decimal c ∷ more
key_words (Out f e o c) more = codes "out" ∷ decimal f ∷ end_text e ∷ decimal o ∷ decimal c ∷ more

-- those of a value, which has a minus sign where it is below 0
abbrev pub value_words : ℤ → List (List ℕ) → List (List ℕ)
value_words value more = codes "=" ∷ signed_decimal value ∷ more

-- those of the cells of a processor
abbrev pub cell_words : Option (List ℤ) → List (List ℕ)
cell_words None = []
cell_words (Some cells) = map signed_decimal cells

abbrev pub fact_words : Fact → List (List ℕ)
fact_words x = key_words x.key (value_words x.value (cell_words x.cells))

-- between each two words stands a space
unfoldable pub key_text : Key → List ℕ
key_text key = join_with_byte 32 (key_words key [])

unfoldable pub fact_text : Fact → List ℕ
fact_text x = join_with_byte 32 (fact_words x)

-- a cell with a space in front
unfoldable pub cell_text : ℤ → List ℕ
cell_text cell = codes " " ++ signed_decimal cell

abbrev pub facts_text : List Fact → List ℕ
facts_text facts = flat_map (λ x. fact_text x ++ codes "\n") facts

-- the numbers of a key are those of its type
abbrev pub IsSizedKey : Key → Type 0
IsSizedKey (Count j e o) = (j < 2 ^ 64) × (e.node.0 < 2 ^ 32) × (o < 2 ^ 32)
IsSizedKey (Inlet f e i c) = (f < 2 ^ 64) × (e.node.0 < 2 ^ 32) × (i < 2 ^ 32) × (c < 2 ^ 32)
IsSizedKey (Par f node name) = (f < 2 ^ 64) × (node.0 < 2 ^ 32)
IsSizedKey (Hist f node c) = (f < 2 ^ 64) × (node.0 < 2 ^ 32) × (c < 2 ^ 32)
IsSizedKey (Out f e o c) = (f < 2 ^ 64) × (e.node.0 < 2 ^ 32) × (o < 2 ^ 32) × (c < 2 ^ 32)

-- the cells of a processor are 16, each in units of 2^-24
pub record AreCells (cells : List ℤ) : Type 0 where
  pub sixteen : length cells ≡ 16
  pub fix : (cell : ℤ) → IsIn cell cells → IsFix cell

-- A fact of the types that the program has: its numbers are those of its key's, its value one of 64 bits, and its cells are 16 where it has any.
pub record IsSized (x : Fact) : Type 0 where
  pub key : IsSizedKey x.key
  pub value : FitsSigned w64 x.value
  pub cells : IfSome x.cells AreCells

-- A checked text is that of one or more facts that are checked.
pub record IsCheckedText (q : ℕ) (tape : List World) (text : List ℕ) (facts : List Fact) : Type 0 where
  pub some : 1 ≤ length facts
  pub lines : facts_text facts ≡ text
  pub checked : IsChecked q tape facts
