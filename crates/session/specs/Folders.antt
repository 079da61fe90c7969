-- The folder of assets, through a session.
use Rattle.std.specs.Prelude.{ℕ, ◌≡◌, ◌≤◌, ◌<◌, Bool}
use Rattle.io_edge.specs.Paths.{Paths}
use Rattle.control_side.specs.Assets.{IsHeld}

-- what each path of the folder holds at each moment of a session; a moment is the number of the lines that the session has by then
abbrev pub Folder : Type 0
Folder = ℕ → Paths

-- a store that tells what its paths hold tells it of each moment
abbrev pub IsFolderOf : Bool → Paths → Folder → Type 0
IsFolderOf tells paths folder = (moment : ℕ) → IsHeld tells paths (folder moment)

-- two folders hold the same from a moment on up to another
abbrev pub AgreeBetween : ℕ → ℕ → Folder → Folder → Type 0
AgreeBetween first next folder other = (moment : ℕ) → first ≤ moment → moment < next → other moment ≡ folder moment
