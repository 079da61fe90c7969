-- Lists of facts that are checked.
use Rattle.std.specs.Prelude.{ℕ, ◌≡◌, List, [], ◌∷◌}
use Rattle.law_base.specs.Members.{IsIn}
use Rattle.meaning.specs.declared.world.World.{World}
use Rattle.explain.specs.declared.facts.Key.{Key}
use Rattle.explain.specs.declared.facts.Fact.{Fact}
use Rattle.explain.specs.Accounts.{Account, meant, stated, derived}
use Rattle.explain.specs.Facts.{IsFactOf}
use Rattle.explain.specs.Needs.{needs}

-- A fact holds in an account that says so, and whose equation gives it.
pub record Holds (q : ℕ) (tape : List World) (a : Account) (fact : Fact) : Type 0 where
  pub said : stated q tape a fact.key ≡ fact
  pub given : derived q tape a fact.key ≡ fact

abbrev pub AllHold : ℕ → List World → Account → List Fact → Type 0
AllHold q tape a facts = (x : Fact) → IsIn x facts → Holds q tape a x

-- one of the facts is about a key
abbrev pub Stands : Key → List Fact → Type 0
Stands key facts = (x : Fact) × IsIn x facts × (x.key ≡ key)

-- A fact follows from those before it: it is a fact of the tape, and, whatever else there may be where those hold, what it needs stands among them, and its equation gives it.
pub record Follows (q : ℕ) (tape : List World) (before : List Fact) (fact : Fact) : Type 0 where
  pub form : IsFactOf q tape fact
  pub needed : (a : Account) → AllHold q tape a before → (key : Key) → IsIn key (needs q tape a fact.key) → Stands key before
  pub given : (a : Account) → AllHold q tape a before → derived q tape a fact.key ≡ fact

-- each fact follows from those before, of which the last one stands first
abbrev pub FollowOn : ℕ → List World → List Fact → List Fact → Type 0
FollowOn q tape before [] = Unit {0}
FollowOn q tape before (x ∷ xs) = Follows q tape before x × FollowOn q tape (x ∷ before) xs

-- A list of facts is checked where each one follows from those before it.
abbrev pub IsChecked : ℕ → List World → List Fact → Type 0
IsChecked q tape facts = FollowOn q tape [] facts

-- What a checker looks at in a fact, with the counts and values that the meaning has: it is a fact of the tape, each key that it needs is that of a fact before it, and its equation gives it.
pub record Passes (q : ℕ) (tape : List World) (before : List Fact) (fact : Fact) : Type 0 where
  pub form : IsFactOf q tape fact
  pub needed : (key : Key) → IsIn key (needs q tape (meant q tape) fact.key) → Stands key before
  pub given : derived q tape (meant q tape) fact.key ≡ fact
