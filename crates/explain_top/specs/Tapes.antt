-- The tape of a script's session, which is derived from and checked against.
use Rattle.std.specs.Prelude.{◌≡◌, ◌≤◌, ◌*◌, ◌^◌, List, length, map, true}
use Rattle.wa_base.specs.Contexts.{quantum_of, IsSupported}
use Rattle.wa_base.specs.declared.contexts.ContextSpec.{ContextSpec}
use Rattle.meaning.specs.declared.world.World.{World}
use Rattle.meaning.specs.World.{sounding}
use Rattle.meaning.specs.Worlds.{IsRegular}
use Rattle.derivations.specs.declared.tape.Piece.{Piece}
use Rattle.derivations.specs.Tapes.{worlds}
use Rattle.session.specs.Rendering.{completes}
use Rattle.session.specs.Session.{Played}

-- The worlds of a session of a context that completed: they follow one another, and have each frame of the context.
pub record IsAskable (spec : ContextSpec) (tape : List World) : Type 0 where
  pub supported : IsSupported spec
  pub regular : IsRegular (quantum_of spec) tape
  pub short : quantum_of spec * length tape ≤ 2 ^ 62
  pub whole : spec.length ≤ quantum_of spec * length tape

-- Pieces are the tape of a session that completed: their worlds sound as its own.
pub record IsTapeOf (spec : ContextSpec) (played : Played) (pieces : List Piece) : Type 0 where
  pub completed : completes played.end ≡ true
  pub sounds : map sounding (worlds pieces) ≡ map sounding played.tape
  pub askable : IsAskable spec (worlds pieces)
