-- Two passes over a graph of numbered vertices: one along its arrows, which finishes each vertex after those that it leads to, and one against them.
use Rattle.std.specs.Prelude.{ℕ, zero, suc, ◌≡◌, ◌+◌, ◌-◌, ◌<◌, ◌≤◌, ◌⊎◌, List, [], ◌∷◌, ◌++◌, length, slice_index_or, Bool, true, false}
use Rattle.law_base.specs.Members.{IsIn, AreDistinct}
use Rattle.cycle_order.specs.Reach.{leads, is_marked}

-- a way of so many arrows, and of any number of them
abbrev pub IsWayOf : List (List ℕ) → ℕ → ℕ → ℕ → Type 0
IsWayOf arrows zero a b = a ≡ b
IsWayOf arrows (suc n) a b = (c : ℕ) × (leads arrows a c ≡ true) × IsWayOf arrows n c b

abbrev pub IsWay : List (List ℕ) → ℕ → ℕ → Type 0
IsWay arrows a b = (n : ℕ) × IsWayOf arrows n a b

-- What a vertex leads to goes back to that vertex, if it goes on to any vertex that is not finished by then.
abbrev pub IsFinishing : List (List ℕ) → List ℕ → Type 0
IsFinishing arrows order = (earlier later : List ℕ) (x c w : ℕ) → order ≡ earlier ++ x ∷ later → leads arrows x c ≡ true
    → (IsIn w earlier → ⊥) → (w ≡ x → ⊥) → IsWay arrows c w → IsWay arrows c x

-- a list of all vertices, each once, in the order in which a depth-first pass finishes them
pub record IsFinish (arrows : List (List ℕ)) (order : List ℕ) : Type 0 where
  pub all : (v : ℕ) → v < length arrows → IsIn v order
  pub within : (v : ℕ) → IsIn v order → v < length arrows
  pub distinct : AreDistinct order
  pub finished : IsFinishing arrows order

-- from each there is a way to those behind it
abbrev pub AreChained : List (List ℕ) → List ℕ → Type 0
AreChained arrows [] = Unit {0}
AreChained arrows (g ∷ gs) = ((a : ℕ) → IsIn a gs → IsWay arrows g a) × AreChained arrows gs

-- The state of the pass along the arrows: vertices that are met wait on a stack, each led to from below, or are finished.
pub record IsPassing (arrows : List (List ℕ)) (marks : List Bool) (next stack order : List ℕ) : Type 0 where
  pub number : length marks ≡ length arrows
  pub nexts : length next ≡ length arrows
  -- a vertex that is met is on the stack or finished
  pub met : (v : ℕ) → is_marked marks v ≡ true → IsIn v stack ⊎ IsIn v order
  pub waits : (v : ℕ) → IsIn v stack → is_marked marks v ≡ true
  pub done : (v : ℕ) → IsIn v order → is_marked marks v ≡ true
  -- so many of its arrows are followed, and all where it is finished
  pub looked : (v j : ℕ) → j < slice_index_or next v 0 → is_marked marks (slice_index_or (slice_index_or arrows v []) j 0) ≡ true
  pub followed : (v : ℕ) → IsIn v order → length (slice_index_or arrows v []) ≤ slice_index_or next v 0
  pub chained : AreChained arrows stack
  pub once : AreDistinct stack
  pub apart : (v : ℕ) → IsIn v stack → IsIn v order → ⊥
  pub distinct : AreDistinct order
  pub finished : IsFinishing arrows order

-- how many arrows are not followed yet
abbrev pub unfollowed : List (List ℕ) → List ℕ → ℕ
unfollowed [] next = 0
unfollowed (ts ∷ tss) [] = length ts + unfollowed tss []
unfollowed (ts ∷ tss) (n ∷ ns) = (length ts - n) + unfollowed tss ns

-- the arrows turned round
pub record IsTurned (arrows back : List (List ℕ)) : Type 0 where
  pub number : length back ≡ length arrows
  pub forth : (a b : ℕ) → leads arrows a b ≡ true → leads back b a ≡ true
  pub home : (a b : ℕ) → leads back b a ≡ true → leads arrows a b ≡ true

-- What a search from a vertex finds: those that it reaches and that were not marked before. No arrow leads from what is marked to what is not, if none led so before.
pub record IsTree (back : List (List ℕ)) (root : ℕ) (old new : List Bool) (tree : List ℕ) : Type 0 where
  pub root_in : IsIn root tree
  pub marked : (v : ℕ) → IsIn v tree → is_marked new v ≡ true
  pub kept : (v : ℕ) → is_marked old v ≡ true → is_marked new v ≡ true
  pub only : (v : ℕ) → is_marked new v ≡ true → (is_marked old v ≡ true) ⊎ IsIn v tree
  pub fresh : (v : ℕ) → IsIn v tree → is_marked old v ≡ false
  pub way : (v : ℕ) → IsIn v tree → IsWay back root v
  pub closed : (b a : ℕ) → IsIn b tree → leads back b a ≡ true → is_marked new a ≡ true

-- Each vertex has a leader, and two have one leader where there is a way from each to the other.
pub record AreLeaders (arrows : List (List ℕ)) (leaders : List ℕ) : Type 0 where
  pub number : length leaders ≡ length arrows
  pub together : (a b : ℕ) → a < length arrows → b < length arrows → slice_index_or leaders a 0 ≡ slice_index_or leaders b 0 → IsWay arrows a b
  pub same : (a b : ℕ) → a < length arrows → b < length arrows → IsWay arrows a b → IsWay arrows b a → slice_index_or leaders a 0 ≡ slice_index_or leaders b 0
