-- What is said of walks along the needs of a key.
use Rattle.std.specs.Prelude.{ℕ, List, [], ◌∷◌, ◌++◌}
use Rattle.meaning.specs.declared.world.World.{World}
use Rattle.explain.specs.declared.facts.Fact.{Fact}
use Rattle.derivations.specs.declared.needs.Search.{Search}
use Rattle.derivations.specs.Searched.{Searched}

-- How far a walk came stays so when one more fact is known.
abbrev pub SearchedLaw : Type 0
SearchedLaw = (q : ℕ) (tape : List World) (facts : List Fact) (walk : Search) (x : Fact) → Searched q tape facts walk → Searched q tape (facts ++ x ∷ []) walk
