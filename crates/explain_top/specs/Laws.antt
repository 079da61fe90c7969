-- What is said of texts at fault, for every size of a quantum from 1 to 1,024 frames.
use Rattle.std.specs.Prelude.{ℕ, ◌≢◌, ◌<◌, ◌≤◌, List}
use Rattle.law_base.specs.Members.{IsIn}
use Rattle.meaning.specs.declared.world.World.{World}
use Rattle.meaning.specs.Worlds.{IsRegular}
use Rattle.explain.specs.declared.facts.Fact.{Fact}
use Rattle.explain.specs.Texts.{IsSized, IsCheckedText}
use Rattle.explain_top.specs.declared.checking.CheckErr.{CheckErr}
use Rattle.explain_top.specs.declared.checking.CheckErr.TheVariants.{NoMemory}
use Rattle.explain_top.specs.Faults.{IsFault}

-- A text at fault is the checked text of no facts whose numbers fit their types.
abbrev pub FaultLaw : Type 0
FaultLaw = (q : ℕ) → 0 < q → q ≤ 1024 → (tape : List World) → IsRegular q tape → (text : List ℕ) (error : CheckErr) → error ≢ NoMemory → IsFault q tape text error →
    (facts : List Fact) → ((x : Fact) → IsIn x facts → IsSized x) → IsCheckedText q tape text facts → ⊥
