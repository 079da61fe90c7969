-- Reaching in a graph of numbered vertices, which is told by a list: for each vertex, those that its arrows lead to.
use Rattle.std.specs.Prelude.{ℕ, ◌≡◌, ◌+◌, ◌<◌, ◌⊎◌, List, [], ◌++◌, length, slice_index_or, filter, Bool, true, false, not, ◌==◌}
use Rattle.std.specs.List.{list_any, range_with_len}
use Rattle.law_base.specs.Members.{IsIn}
use Rattle.law_base.specs.Reaching.{reaches}

abbrev pub leads : List (List ℕ) → ℕ → ℕ → Bool
leads arrows a b = list_any (λ c. c == b) (slice_index_or arrows a [])

abbrev pub vertices : List (List ℕ) → List ℕ
vertices arrows = range_with_len 0 (length arrows)

-- whether a vertex reaches another, or itself, by one or more arrows
unfoldable pub reaches_vertex : List (List ℕ) → ℕ → ℕ → Bool
reaches_vertex arrows a b = reaches (leads arrows) (vertices arrows) (length arrows) a b

abbrev pub reaches_itself : List (List ℕ) → ℕ → Bool
reaches_itself arrows v = reaches_vertex arrows v v

-- each arrow leads to a vertex
abbrev pub IsWithin : List (List ℕ) → Type 0
IsWithin arrows = (a b : ℕ) → leads arrows a b ≡ true → b < length arrows

abbrev pub is_marked : List Bool → ℕ → Bool
is_marked marks v = slice_index_or marks v false

-- Vertices are marked, and each that was not marked before goes onto the end of a list.
pub record IsMarking (vs : List ℕ) (marks : List Bool) (found : List ℕ) (marks' : List Bool) (found' : List ℕ) : Type 0 where
  -- these are marked, with those that were
  pub targets : (v : ℕ) → IsIn v vs → is_marked marks' v ≡ true
  pub kept : (v : ℕ) → is_marked marks v ≡ true → is_marked marks' v ≡ true
  pub fresh : (v : ℕ) → is_marked marks' v ≡ true → (is_marked marks v ≡ true) ⊎ IsIn v found'
  pub from : (v : ℕ) → IsIn v found' → IsIn v found ⊎ (IsIn v vs × (is_marked marks v ≡ false))
  -- what was found stays in front
  pub more : List ℕ
  pub goes_on : found' ≡ found ++ more
  pub number : length (filter not marks') + length found' ≡ length (filter not marks) + length found
