-- What is wrong with a text that is not checked.
use Rattle.std.specs.Prelude.{ℕ, ◌≡◌, ◌≢◌, ◌+◌, List, [], ◌∷◌, ◌++◌, length}
use Rattle.law_base.specs.Members.{IsIn}
use Rattle.meaning.specs.declared.world.World.{World}
use Rattle.explain.specs.declared.facts.Key.{Key}
use Rattle.explain.specs.declared.facts.Fact.{Fact}
use Rattle.explain.specs.Accounts.{meant, derived}
use Rattle.explain.specs.Facts.{IsFactOf}
use Rattle.explain.specs.Needs.{needs}
use Rattle.explain.specs.Checked.{Stands, IsChecked}
use Rattle.explain.specs.Texts.{IsSized, IsCheckedText, fact_text, facts_text}
use Rattle.explain_top.specs.declared.checking.CheckErr.{CheckErr}
use Rattle.explain_top.specs.declared.checking.CheckErr.TheVariants.{Empty, BadLine, Missing, Wrong, NoMemory}

-- the line of a fact, which ends with one byte 10
abbrev pub line_of : Fact → List ℕ
line_of x = fact_text x ++ 10 ∷ []

-- A text is a derivation of its last fact where it is checked.
abbrev pub IsDerivationOf : ℕ → List World → List ℕ → Fact → Type 0
IsDerivationOf q tape text x = (before : List Fact) × IsCheckedText q tape text (before ++ x ∷ [])

-- A text is the lines of these facts, which are checked, and this rest.
pub record IsBehind (q : ℕ) (tape : List World) (text : List ℕ) (before : List Fact) (rest : List ℕ) : Type 0 where
  pub checked : IsChecked q tape before
  pub sized : (x : Fact) → IsIn x before → IsSized x
  pub whole : facts_text before ++ rest ≡ text

-- A text begins with the line of a fact of the types and of the tape, and this is what stands behind the line.
pub record IsFirst (q : ℕ) (tape : List World) (rest : List ℕ) (x : Fact) (more : List ℕ) : Type 0 where
  pub sized : IsSized x
  pub fact : IsFactOf q tape x
  pub text : line_of x ++ more ≡ rest

abbrev pub BeginsWith : ℕ → List World → List ℕ → Fact → Type 0
BeginsWith q tape rest x = (more : List ℕ) × IsFirst q tape rest x more

module _ (q : ℕ) (tape : List World) (before : List Fact) where
  -- a key that the fact needs stands in no earlier line
  abbrev pub LacksNeed : Fact → Type 0
  LacksNeed x = (key : Key) × IsIn key (needs q tape (meant q tape) x.key) × (Stands key before → ⊥)

  abbrev pub HasNeeds : Fact → Type 0
  HasNeeds x = (key : Key) → IsIn key (needs q tape (meant q tape) x.key) → Stands key before

-- What is wrong with the first line of a rest, which is behind the lines of these facts: it is no fact, or lacks a need, or says something else than its equation.
abbrev pub IsFaultNext : ℕ → List World → List Fact → List ℕ → CheckErr → Type 0
IsFaultNext q tape before rest Empty = ⊥
IsFaultNext q tape before rest (BadLine n) = (n ≡ length before + 1) × ((x : Fact) → BeginsWith q tape rest x → ⊥)
IsFaultNext q tape before rest (Missing n) = (n ≡ length before + 1) × ((x : Fact) × BeginsWith q tape rest x × LacksNeed q tape before x)
IsFaultNext q tape before rest (Wrong n) = (n ≡ length before + 1) × ((x : Fact) × BeginsWith q tape rest x × HasNeeds q tape before x × (derived q tape (meant q tape) x.key ≢ x))
IsFaultNext q tape before rest NoMemory = Unit {0}

-- What is wrong with a text, if it is: it is empty, or with its first line that does not follow from those before it.
abbrev pub IsFault : ℕ → List World → List ℕ → CheckErr → Type 0
IsFault q tape text Empty = text ≡ []
IsFault q tape text NoMemory = Unit {0}
IsFault q tape text error = (before : List Fact) × (rest : List ℕ) × IsBehind q tape text before rest × (rest ≢ []) × IsFaultNext q tape before rest error
