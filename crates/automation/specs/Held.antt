-- How a level holds its values, and how long.
use Rattle.std.specs.Prelude.{ℕ, ◌≡◌, ◌<◌, pos, length, slice_index_or}
use Rattle.automation.specs.declared.level.Values.{Values}
use Rattle.automation.specs.declared.level.Values.TheVariants.{Steady, Rising, Moving}
use Rattle.automation.specs.declared.level.Lasting.{Lasting}
use Rattle.automation.specs.declared.level.Lasting.TheVariants.{Until, Ever}
use Rattle.meaning.specs.declared.params.Param.{Param}
use Rattle.param_cursor.specs.Ramps.{LastsFor, rise_at}
use Rattle.automation.specs.Levels.{LevelView, Keeps, KeepsUntil, StandsUntil, level_at}

-- in a quantum of q frames: one value, which it has at all of them; a ramp, on which all of them lie; or one for each
abbrev pub AreValues : ℕ → LevelView → Values → Type 0
AreValues q level (Steady value) = (m : ℕ) → m < q → level_at level m ≡ value
AreValues q level (Rising ramp) = LastsFor ramp q × ((m : ℕ) → m < q → level_at level m ≡ rise_at ramp m)
AreValues q level (Moving values) = (length values.now ≡ q) × ((m : ℕ) → m < q → level_at level m ≡ slice_index_or values.now m (pos 0))

-- from a frame on: a level and a place of a cursor, up to another frame; or a level, for ever
abbrev pub Lasts : ℕ → ℕ → LevelView → ℕ → Param → Lasting → Type 0
Lasts q first level cursor param (Until frame) = KeepsUntil q first frame level param × StandsUntil q first frame cursor param
Lasts q first level cursor param Ever = Keeps q first level param
