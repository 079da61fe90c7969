-- Vertices that are taken away one by one, each when no arrow leads to it any more.
use Rattle.std.specs.Prelude.{ℕ, ◌≡◌, ◌<◌, ◌≤◌, List, length, slice_index_or, true}
use Rattle.law_base.specs.Members.{IsIn, AreDistinct}
use Rattle.cycle_order.specs.Reach.{leads}

-- vertices to which no arrow is counted any more, each listed once
pub record AreFree (counts free : List ℕ) : Type 0 where
  pub within : (v : ℕ) → IsIn v free → v < length counts
  pub once : AreDistinct free
  pub none : (v : ℕ) → IsIn v free → slice_index_or counts v 0 ≡ 0

-- from the first so many vertices of a list no arrow leads back, nor to the vertex itself
abbrev pub IsForward : List (List ℕ) → List ℕ → ℕ → Type 0
IsForward arrows order number = (i j : ℕ) → i < number → j ≤ i → leads arrows (slice_index_or order i 0) (slice_index_or order j 0) ≡ true → ⊥
