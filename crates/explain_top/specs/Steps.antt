-- What is said of one line, behind facts that are checked.
use Rattle.std.specs.Prelude.{ℕ, ◌≡◌, List, ◌++◌}
use Rattle.meaning.specs.declared.world.World.{World}
use Rattle.explain.specs.declared.facts.Fact.{Fact}
use Rattle.explain.specs.Checked.{Passes}
use Rattle.explain.specs.Texts.{IsSized}
use Rattle.explain_top.specs.Faults.{line_of}

-- A text begins with the line of a fact of the types that passes behind those before it, and this is what stands behind the line.
pub record IsNext (q : ℕ) (tape : List World) (before : List Fact) (rest : List ℕ) (x : Fact) (more : List ℕ) : Type 0 where
  pub sized : IsSized x
  pub passes : Passes q tape before x
  pub text : line_of x ++ more ≡ rest
