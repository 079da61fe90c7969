-- How far a search came.
use Rattle.std.specs.Prelude.{ℕ, List}
use Rattle.meaning.specs.declared.world.World.{World}
use Rattle.explain.specs.declared.facts.Fact.{Fact}
use Rattle.derivations.specs.declared.needs.Search.{Search}
use Rattle.derivations.specs.Groups.{group}
use Rattle.derivations.specs.Searches.{IsPast}

-- All needs before the place where a search is stand in facts, in each account in which the facts hold.
abbrev pub Searched : ℕ → List World → List Fact → Search → Type 0
Searched q tape facts walk = IsPast q tape facts (λ a. group q tape a walk.key) walk.place
