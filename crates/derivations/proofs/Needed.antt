-- A search among the groups of a key is one among its needs.
use Rattle.std.proofs.Common.{ℕ, ◌≡◌, List, sym, ap}
use Rattle.meaning.specs.declared.world.World.{World}
use Rattle.explain.specs.declared.facts.Key.{Key}
use Rattle.explain.specs.declared.facts.Fact.{Fact}
use Rattle.explain.specs.Accounts.{Account}
use Rattle.explain.specs.Needs.{needs}
use Rattle.derivations.specs.declared.places.Place.{Place}
use Rattle.derivations.specs.Groups.{group}
use Rattle.derivations.specs.Searches.{AreKnown, IsMissing, AreAllKnown, IsMissingIn, IsPast}
use Rattle.derivations.proofs.Grouped.{of_needs, in_needs}
use Rattle.derivations.proofs.Leading.{past_as, all_as, missing_in_as}

-- of a key by its form
module _ (q : ℕ) (tape : List World) (facts : List Fact) (key form : Key) (same : key ≡ form) where
  abbrev groups : Key → Account → ℕ → List Key
  groups k a = group q tape a k

  formed : (a : Account) (g : ℕ) → groups key a g ≡ groups form a g
  formed a g = ap (λ k. groups k a g) same

  back : (a : Account) (g : ℕ) → groups form a g ≡ groups key a g
  back a g = sym (formed a g)

  pub past_of : (place : Place) → IsPast q tape facts (groups key) place → IsPast q tape facts (groups form) place
  past_of place past = past_as q tape facts (groups key) (groups form) formed place past

  pub past_by : (place : Place) → IsPast q tape facts (groups form) place → IsPast q tape facts (groups key) place
  past_by place past = past_as q tape facts (groups form) (groups key) back place past

  pub known_by : AreAllKnown q tape facts (groups form) → AreKnown q tape facts (λ a. needs q tape a key)
  known_by known a all k h = let r = of_needs q tape a key k h in all_as q tape facts (groups form) (groups key) back known a all r.0 k r.1

  pub missing_by : (k : Key) → IsMissingIn q tape facts (groups form) k → IsMissing q tape facts (λ a. needs q tape a key) k
  missing_by k missing =
      let there = missing_in_as q tape facts (groups form) (groups key) back k missing in
      record { needed = λ a all. let r = there.needed a all in in_needs q tape a key r.0 k r.1; absent = missing.absent; key = missing.key }
