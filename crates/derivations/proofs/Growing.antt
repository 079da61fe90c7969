-- What was found to stand does so when one more fact is known.
use Rattle.std.proofs.Common.{ℕ, List, [], ◌∷◌, ◌++◌, arith}
use Rattle.law_base.proofs.Members.{IsIn-append_first}
use Rattle.meaning.specs.declared.world.World.{World}
use Rattle.explain.specs.declared.facts.Key.{Key}
use Rattle.explain.specs.declared.facts.Fact.{Fact}
use Rattle.explain.specs.Accounts.{Account}
use Rattle.explain.specs.Checked.{AllHold, Stands}
use Rattle.derivations.specs.declared.places.Place.{Place}
use Rattle.derivations.specs.Searches.{IsPast}

module _ (q : ℕ) (tape : List World) (groups : Account → ℕ → List Key) where
  -- before the first need there is none
  pub past_first : (facts : List Fact) → IsPast q tape facts groups (record { group = 0; item = 0 })
  past_first facts = record { whole = λ a all g l. absurd (omega arith); part = λ a all k h. absurd h }

  pub past_grows : (facts : List Fact) (place : Place) (x : Fact) → IsPast q tape facts groups place → IsPast q tape (facts ++ x ∷ []) groups place
  past_grows facts place x past = record {
    whole = λ a all g l k h. more k (past.whole a (fewer a all) g l k h);
    part = λ a all k h. more k (past.part a (fewer a all) k h);
  }
    where
      fewer : (a : Account) → AllHold q tape a (facts ++ x ∷ []) → AllHold q tape a facts
      fewer a all y h = all y (IsIn-append_first facts (x ∷ []) y h)

      more : (k : Key) → Stands k facts → Stands k (facts ++ x ∷ [])
      more k (y, h, e) = (y, IsIn-append_first facts (x ∷ []) y h, e)
