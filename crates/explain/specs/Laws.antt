-- What is said of checked lists, for every size of a quantum from 1 to 1,024 frames.
use Rattle.std.specs.Prelude.{ℕ, ◌≡◌, ◌<◌, ◌≤◌, ◌↔◌, List, [], ◌∷◌, ◌++◌}
use Rattle.law_base.specs.Members.{IsIn}
use Rattle.meaning.specs.declared.world.World.{World}
use Rattle.meaning.specs.Worlds.{IsRegular}
use Rattle.explain.specs.declared.facts.Fact.{Fact}
use Rattle.explain.specs.declared.facts.Key.{Key}
use Rattle.explain.specs.Accounts.{meant, means}
use Rattle.explain.specs.Facts.{IsFactOf}
use Rattle.explain.specs.Needs.{needs}
use Rattle.explain.specs.Checked.{Stands, IsChecked, Passes}
use Rattle.explain.specs.Texts.{facts_text, IsSized, IsCheckedText}

-- Each fact of a checked list is what the meaning has.
abbrev pub CheckedLaw : Type 0
CheckedLaw = (q : ℕ) → 0 < q → q ≤ 1024 → (tape : List World) → IsRegular q tape → (facts : List Fact) → IsChecked q tape facts →
    (x : Fact) → IsIn x facts → means q tape x.key ≡ x

-- Each fact of a checked text is what the meaning has.
abbrev pub CheckedTextLaw : Type 0
CheckedTextLaw = (q : ℕ) → 0 < q → q ≤ 1024 → (tape : List World) → IsRegular q tape → (text : List ℕ) (facts : List Fact) → IsCheckedText q tape text facts →
    (x : Fact) → IsIn x facts → means q tape x.key ≡ x

-- No equation reads more than what its key needs: behind a checked list in which that stands, each fact that is what the meaning has makes a checked list.
abbrev pub NeedsLaw : Type 0
NeedsLaw = (q : ℕ) → 0 < q → q ≤ 1024 → (tape : List World) → IsRegular q tape → (facts : List Fact) → IsChecked q tape facts →
    (x : Fact) → IsFactOf q tape x → means q tape x.key ≡ x → ((key : Key) → IsIn key (needs q tape (meant q tape) x.key) → Stands key facts) →
    IsChecked q tape (facts ++ x ∷ [])

-- A list of facts is checked exactly where each fact of it passes behind those before it.
abbrev pub CheckerLaw : Type 0
CheckerLaw = (q : ℕ) → 0 < q → q ≤ 1024 → (tape : List World) → IsRegular q tape → (facts : List Fact) →
    IsChecked q tape facts ↔ ((before : List Fact) (fact : Fact) (after : List Fact) → facts ≡ before ++ fact ∷ after → Passes q tape before fact)

-- With one more fact behind it, a list is checked exactly where it is checked without that fact, and the fact passes.
abbrev pub NextFactLaw : Type 0
NextFactLaw = (q : ℕ) → 0 < q → q ≤ 1024 → (tape : List World) → IsRegular q tape → (facts : List Fact) (fact : Fact) →
    IsChecked q tape (facts ++ fact ∷ []) ↔ (IsChecked q tape facts × Passes q tape facts fact)

-- A text is that of at most one list of facts whose numbers fit their types.
abbrev pub TextLaw : Type 0
TextLaw = (xs ys : List Fact) → ((x : Fact) → IsIn x xs → IsSized x) → ((y : Fact) → IsIn y ys → IsSized y) → facts_text xs ≡ facts_text ys → xs ≡ ys
