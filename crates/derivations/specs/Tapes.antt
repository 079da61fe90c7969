-- The worlds of a tape.
use Rattle.std.specs.Prelude.{List, [], ◌∷◌, ◌++◌, replicate}
use Rattle.meaning.specs.declared.world.World.{World}
use Rattle.derivations.specs.declared.tape.Piece.{Piece}

-- each world as often as its piece has quanta
abbrev pub worlds : List Piece → List World
worlds [] = []
worlds (p ∷ ps) = replicate p.quanta p.world ++ worlds ps
