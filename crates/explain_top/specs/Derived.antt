-- What is made for a key.
use Rattle.std.specs.Prelude.{ℕ, ◌≡◌, ◌<◌, ◌^◌, ◌⊎◌, List, [], ◌∷◌, ◌++◌, map, length}
use Rattle.law_base.specs.Members.{AreDistinct}
use Rattle.meaning.specs.declared.world.World.{World}
use Rattle.explain.specs.declared.facts.Key.{Key}
use Rattle.explain.specs.declared.facts.Fact.{Fact}
use Rattle.explain.specs.Checked.{Stands, IsChecked}
use Rattle.explain.specs.Texts.{facts_text}

-- no two facts are about one key
abbrev pub StandOnce : List Fact → Type 0
StandOnce facts = AreDistinct (map (λ x. x.key) facts)

-- A derivation of a key is a checked list in which each key stands once, and the last fact is about the key.
pub record IsDerivation (q : ℕ) (tape : List World) (key : Key) (facts : List Fact) : Type 0 where
  pub checked : IsChecked q tape facts
  pub once : StandOnce facts
  pub before : List Fact
  pub last : Fact
  pub is : facts ≡ before ++ last ∷ []
  pub about : last.key ≡ key

-- facts are more than are given out, or their text has more bytes
abbrev pub AreTooMany : List Fact → Type 0
AreTooMany facts = (2 ^ 20 < length facts) ⊎ (2 ^ 26 < length (facts_text facts))

-- Whatever is checked and has a fact about the key is too much.
abbrev pub AreAllTooMany : ℕ → List World → Key → Type 0
AreAllTooMany q tape key = (facts : List Fact) → IsChecked q tape facts → Stands key facts → AreTooMany facts
