-- How far a search among the needs of a key came, and what it finds.
use Rattle.std.specs.Prelude.{ℕ, ◌<◌, ◌≤◌, List, take}
use Rattle.law_base.specs.Members.{IsIn}
use Rattle.meaning.specs.declared.world.World.{World}
use Rattle.meaning.specs.Worlds.{IsRegular}
use Rattle.explain.specs.declared.facts.Key.{Key}
use Rattle.explain.specs.declared.facts.Fact.{Fact}
use Rattle.explain.specs.Accounts.{Account}
use Rattle.explain.specs.Checked.{AllHold, Stands, IsChecked}
use Rattle.explain.specs.Facts.{IsKeyOf}
use Rattle.derivations.specs.declared.places.Place.{Place}

-- what a search rests on: a regular tape, quanta of 1 to 1,024 frames, and checked facts
pub record IsReady (q : ℕ) (tape : List World) (facts : List Fact) : Type 0 where
  pub some : 0 < q
  pub most : q ≤ 1024
  pub regular : IsRegular q tape
  pub checked : IsChecked q tape facts

abbrev pub AllStand : List Key → List Fact → Type 0
AllStand keys facts = (k : Key) → IsIn k keys → Stands k facts

module _ (q : ℕ) (tape : List World) (facts : List Fact) where
  -- in each account in which the facts hold, all of these keys stand
  abbrev pub AreKnown : (Account → List Key) → Type 0
  AreKnown keys = (a : Account) → AllHold q tape a facts → AllStand (keys a) facts

  -- A key is missing where it stands in no fact. It is one of these in each account in which the facts hold, and a key of the tape.
  pub record IsMissing (keys : Account → List Key) (k : Key) : Type 0 where
    pub needed : (a : Account) → AllHold q tape a facts → IsIn k (keys a)
    pub absent : Stands k facts → ⊥
    pub key : IsKeyOf q tape k

  -- the same of keys in groups
  abbrev pub AreAllKnown : (Account → ℕ → List Key) → Type 0
  AreAllKnown groups = (a : Account) → AllHold q tape a facts → (g : ℕ) → AllStand (groups a g) facts

  pub record IsMissingIn (groups : Account → ℕ → List Key) (k : Key) : Type 0 where
    pub needed : (a : Account) → AllHold q tape a facts → (g : ℕ) × IsIn k (groups a g)
    pub absent : Stands k facts → ⊥
    pub key : IsKeyOf q tape k

  -- a search came to a place: the groups before it stand, and the first keys of the group there
  pub record IsPast (groups : Account → ℕ → List Key) (place : Place) : Type 0 where
    pub whole : (a : Account) → AllHold q tape a facts → (g : ℕ) → g < place.group → AllStand (groups a g) facts
    pub part : (a : Account) → AllHold q tape a facts → AllStand (take place.item (groups a place.group)) facts
