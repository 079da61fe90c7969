-- What an observer of a session is shown.
use Rattle.std.specs.Prelude.{◌≡◌, ◌<◌, ◌^◌, ◌++◌, ◌∷◌, [], List, length, map, Bool, IsTrue}
use Rattle.meaning.specs.declared.world.World.{World}
use Rattle.meaning.specs.World.{sounding}

-- A world comes after those that were shown: they are few enough to be counted, and where it comes again, it sounds as the last of them.
pub record ComesNext (again : Bool) (worlds : List World) (w : World) : Type 0 where
  pub few : length worlds < 2 ^ 32
  pub last : IsTrue again → (before : List World) × (worlds ≡ before ++ sounding w ∷ [])

-- An observer was shown the worlds of a tape.
abbrev pub Saw : (List World → Type 0) → List World → Type 0
Saw saw tape = saw (map sounding tape)
