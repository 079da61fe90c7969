-- How a tape keeps its pieces.
use Rattle.std.specs.Prelude.{ℕ, ◌≡◌, ◌+◌, List, [], ◌∷◌, map, slice_get, Some}
use Rattle.meaning.specs.declared.world.World.{World}
use Rattle.derivations.specs.declared.tape.Piece.{Piece}
use Rattle.derivations.specs.declared.tape.Stretch.{Stretch}
use Rattle.derivations.specs.Marks.{AreMarks}

abbrev pub pieces_of : List Stretch → List Piece
pieces_of = map (λ s. s.piece)

-- each stretch ends so many quanta after the one before, and the last one ends with the tape
abbrev pub AreStretches : ℕ → List Stretch → ℕ → Type 0
AreStretches start [] quanta = start ≡ quanta
AreStretches start (s ∷ ss) quanta = (s.end ≡ start + s.piece.quanta) × AreMarks s.piece.world.graph.value s.marks × AreStretches s.end ss quanta

-- the world of a quantum, with what its graph says
pub record IsInForce (tape : List World) (quantum : ℕ) (s : Stretch) : Type 0 where
  pub there : slice_get tape quantum ≡ Some s.piece.world
  pub marks : AreMarks s.piece.world.graph.value s.marks
