-- What is at hand before the values of a quantum are taken, and after it.
use Rattle.std.specs.Prelude.{ℕ, ◌+◌, ◌<◌, ◌≤◌, ◌≡◌, ◌⊎◌, List, [], ◌∷◌, length, map, slice_index_or}
use Rattle.std.specs.List.Sorted.{IsStrictlyIncreasing}
use Rattle.law_base.specs.Members.{IsIn}
use Rattle.meaning.specs.declared.params.Param.{Param}
use Rattle.param_cursor.specs.Cursors.{place_at, within}
use Rattle.automation.specs.Levels.{LevelView, HasRoom, IsLevelOf, Keeps, KeepsUntil, StandsUntil, level_of}

-- What contracts see of a parameter whose level may still change: its place among all parameters, that of its cursor, and the frame until which both rest.
pub record RunningView : Type 0 where
  pub param : ℕ
  pub cursor : ℕ
  pub until : ℕ

-- What contracts see of an automation: the frames of a quantum, the parameters whose levels may still change, and the level of each node.
pub record AutomationView : Type 0 where
  pub quantum : ℕ
  pub running : List RunningView
  pub levels : List LevelView

-- the parameters stand in order of their nodes, of which each has one at most, and there are so many nodes
pub record AreOfNodes (nodes : ℕ) (params : List Param) : Type 0 where
  pub order : IsStrictlyIncreasing (map (λ (p : Param). p.id.node.0) params)
  pub there : (p : Param) → IsIn p params → p.id.node.0 < nodes

abbrev pub param_of : RunningView → ℕ
param_of r = r.param

-- numbers rise, from one on and below another
abbrev pub RiseWithin : ℕ → ℕ → List ℕ → Type 0
RiseWithin low end [] = Unit {0}
RiseWithin low end (i ∷ is) = (low ≤ i) × (i < end) × RiseWithin (i + 1) end is

-- those that run are some of so many parameters, in order
abbrev pub AreRunning : ℕ → List RunningView → Type 0
AreRunning count running = RiseWithin 0 count (map param_of running)

-- the place in the timeline of a parameter of a cursor that stands at a frame
abbrev pub place_in : ℕ → Param → ℕ
place_in first p = place_at first p.line.events

-- a cursor stands at a frame in the timeline of its parameter
abbrev pub Stands : List Param → ℕ → RunningView → Type 0
Stands params first r = (d : Param) → r.cursor ≡ place_in first (slice_index_or params r.param d)

-- in each quantum from a frame on that ends at or before its own frame, a parameter that runs has its level, and its cursor stands
pub record Rests (q : ℕ) (params : List Param) (first : ℕ) (levels : List LevelView) (r : RunningView) : Type 0 where
  pub level : (d : Param) → KeepsUntil q first r.until (level_of levels (slice_index_or params r.param d).id.node.0) (slice_index_or params r.param d)
  pub place : (d : Param) → StandsUntil q first r.until r.cursor (slice_index_or params r.param d)

abbrev pub AllRest : ℕ → List Param → ℕ → List LevelView → List RunningView → Type 0
AllRest q params first levels running = (r : RunningView) → IsIn r running → Rests q params first levels r

-- a parameter has its level in the quantum that begins at a frame, and the levels of other nodes are as they were
pub record TakesLevel (q : ℕ) (param : Param) (first : ℕ) (old new : List LevelView) : Type 0 where
  pub level : IsLevelOf q param first (level_of new param.id.node.0)
  pub others : (n : ℕ) → (n ≡ param.id.node.0 → ⊥) → level_of new n ≡ level_of old n

-- for each parameter there is room
abbrev pub HaveRoom : List Param → AutomationView → Type 0
HaveRoom params a = (p : Param) → IsIn p params → (p.id.node.0 < length a.levels) × HasRoom a.quantum (level_of a.levels p.id.node.0)

-- each parameter runs, or keeps its level from a frame on
abbrev pub OthersKeep : List Param → ℕ → AutomationView → Type 0
OthersKeep params first a = (i : ℕ) (d : Param) → i < length params → IsIn i (map param_of a.running) ⊎ Keeps a.quantum first (level_of a.levels (slice_index_or params i d).id.node.0) (slice_index_or params i d)

-- For each parameter there is room, those that do not run keep their levels, and the others rest until their frames.
pub record IsHeld (params : List Param) (first : ℕ) (a : AutomationView) : Type 0 where
  pub running : AreRunning (length params) a.running
  pub room : HaveRoom params a
  pub others : OthersKeep params first a
  pub rests : AllRest a.quantum params first a.levels a.running

-- And each running cursor stands at a frame in the timeline of its parameter.
pub record IsReady (params : List Param) (first : ℕ) (a : AutomationView) : Type 0 where
  pub held : IsHeld params first a
  pub stands : (r : RunningView) → IsIn r a.running → Stands params first r

-- the looks that a quantum of q frames takes at the events of a timeline: two, and those with a time in the quantum
abbrev pub looks_at : ℕ → ℕ → Param → ℕ
looks_at q first p = 2 + length (within first (first + q) p.line.events)
