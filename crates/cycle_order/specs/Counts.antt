-- Arrows that lead to a vertex, counted, and the set of ready vertices.
use Rattle.std.specs.Prelude.{ℕ, suc, ◌≡◌, ◌+◌, ◌≤◌, ◌==◌, ◌&&◌, not, Bool, true, List, [], ◌∷◌, length, slice_index_or, if◌then◌else◌}
use Rattle.std.specs.List.{list_any}
use Rattle.std.specs.Ordering.{nat_cmp}
use Rattle.std.specs.BTreeSet.{BTreeSet, contains}
use Rattle.wa_base.specs.declared.graph_names.End.{End}
use Rattle.wa_base.specs.declared.graph_names.Tie.{Tie}
use Rattle.wa_base.specs.declared.graph_names.Tie.TheVariants.{Up, Down}
use Rattle.cycle_order.specs.Arrows.{vertex_of}

-- how often a vertex is in a list
abbrev pub times : ℕ → List ℕ → ℕ
times v [] = 0
times v (t ∷ ts) = (if t == v then 1 else 0) + times v ts

-- how many arrows lead from some ends to a vertex
abbrev pub entering : List (List ℕ) → List End → ℕ → ℕ
entering arrows [] v = 0
entering arrows (d ∷ ds) v = times v (slice_index_or arrows (vertex_of d) []) + entering arrows ds v

-- how many arrows there are
abbrev pub total : List (List ℕ) → ℕ
total [] = 0
total (ts ∷ tss) = length ts + total tss

-- a vertex of none of these ends waits for one arrow that does not come
abbrev pub bias : List End → ℕ → ℕ
bias ends v = if list_any (λ e. vertex_of e == v) ends then 0 else 1

-- the vertices of the ends rise, from a first one on
abbrev pub AreRising : ℕ → List End → Type 0
AreRising low [] = Unit {0}
AreRising low (e ∷ es) = (low ≤ vertex_of e) × AreRising (suc (vertex_of e)) es

-- whether the set has a vertex
abbrev pub holds : BTreeSet ℕ → ℕ → Bool
holds set v = contains nat_cmp set v

abbrev pub IsFirst : Tie → ℕ → ℕ → Type 0
IsFirst Up v u = v ≤ u
IsFirst Down v u = u ≤ v

-- the vertex is taken out of the set, the least or the greatest by the tie
pub record IsTaken (tie : Tie) (old new : BTreeSet ℕ) (v : ℕ) : Type 0 where
  pub there : holds old v ≡ true
  pub first : (u : ℕ) → holds old u ≡ true → IsFirst tie v u
  pub rest : (u : ℕ) → holds new u ≡ (holds old u && not (v == u))
