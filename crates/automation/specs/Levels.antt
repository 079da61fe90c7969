-- The values of a parameter in a quantum of q frames.
use Rattle.std.specs.Prelude.{ℕ, ◌+◌, ◌≡◌, ◌<◌, ◌≤◌, ℤ, pos, List, [], length, slice_index_or}
use Rattle.wa_base.specs.declared.graph_names.Rate.{Rate}
use Rattle.wa_base.specs.declared.graph_names.Rate.TheVariants.{A, K}
use Rattle.param_events.specs.Values.{value_at}
use Rattle.meaning.specs.declared.params.Param.{Param}
use Rattle.param_cursor.specs.Cursors.{place_at}
use Rattle.param_cursor.specs.Ramps.{LastsFor, rise_at}
use Rattle.automation.specs.declared.level.Shape.{Shape}
use Rattle.automation.specs.declared.level.Shape.TheVariants.{Steady, Rising, Each}
use Rattle.law_base.specs.Members.{IsIn}

-- What contracts see of a level: the automation rate, its shape, and room for a value for each frame.
pub record LevelView : Type 0 where
  pub rate : Rate
  pub shape : Shape
  pub values : List ℤ

-- the value at frame m of the quantum, by the shape: one for all frames, that of a ramp, or one for each
abbrev pub shaped_at : Shape → List ℤ → ℕ → ℤ
shaped_at (Steady value) values m = value
shaped_at (Rising ramp) values m = rise_at ramp m
shaped_at Each values m = slice_index_or values m (pos 0)

-- the value at frame m of the quantum
abbrev pub level_at : LevelView → ℕ → ℤ
level_at level m = shaped_at level.shape level.values m

-- so many frames lie on the ramp, if there is one
abbrev pub GoesOn : ℕ → Shape → Type 0
GoesOn q (Steady value) = Unit {0}
GoesOn q (Rising ramp) = LastsFor ramp q
GoesOn q Each = Unit {0}

-- there is room for one value for each frame
abbrev pub HasRoom : ℕ → LevelView → Type 0
HasRoom q level = length level.values ≡ q

-- the frame at which the value of frame m is taken: at k-rate it is the first of the quantum
abbrev pub taken_at : Rate → ℕ → ℕ
taken_at A m = m
taken_at K m = 0

-- the level of a parameter in the quantum that begins at a frame: its intrinsic value at each frame
pub record IsLevelOf (q : ℕ) (param : Param) (first : ℕ) (level : LevelView) : Type 0 where
  pub room : HasRoom q level
  pub rate : level.rate ≡ param.rate
  pub values : (m : ℕ) → m < q → level_at level m ≡ value_at param.line.base param.line.events (first + taken_at param.rate m)

-- a level is that of a parameter in the quantum that begins at a frame, and in all later ones
abbrev pub Keeps : ℕ → ℕ → LevelView → Param → Type 0
Keeps q first level param = (later : ℕ) → first ≤ later → IsLevelOf q param later level

-- it is that of the parameter in each quantum from a frame on that ends at or before another frame
abbrev pub KeepsUntil : ℕ → ℕ → ℕ → LevelView → Param → Type 0
KeepsUntil q first until level param = (later : ℕ) → first ≤ later → later + q ≤ until → IsLevelOf q param later level

-- a cursor stands at the first frame of each such quantum in the timeline of a parameter
abbrev pub StandsUntil : ℕ → ℕ → ℕ → ℕ → Param → Type 0
StandsUntil q first until cursor param = (later : ℕ) → first ≤ later → later + q ≤ until → cursor ≡ place_at later param.line.events

-- the level of a parameter has one value in each quantum from a frame on that ends at or before another frame
abbrev pub StaysAt : ℕ → ℕ → ℕ → Param → ℤ → Type 0
StaysAt q first until param value = (later m : ℕ) → first ≤ later → later + q ≤ until → m < q → value_at param.line.base param.line.events (later + taken_at param.rate m) ≡ value

-- stands where there is no level
abbrev pub no_level : LevelView
no_level = record { rate = A; shape = Steady (pos 0); values = [] }

-- the level of the parameter of a node
abbrev pub level_of : List LevelView → ℕ → LevelView
level_of levels node = slice_index_or levels node no_level

-- each parameter has its level, at the place of its node
abbrev pub AreLevels : ℕ → List Param → ℕ → List LevelView → Type 0
AreLevels q params first levels = (p : Param) → IsIn p params → IsLevelOf q p first (level_of levels p.id.node.0)
