-- Arrows turned round: links that lead from one to the next.
use Rattle.std.specs.Prelude.{ℕ, zero, suc, ◌≡◌, ◌<◌, List, [], ◌∷◌, length, map, slice_get, slice_index_or, Option, None, Some}
use Rattle.cycle_order.specs.declared.turned.Link.{Link}

-- so many links at most, from a first one on
abbrev pub link_then : (Option ℕ → List ℕ) → Option Link → List ℕ
link_then rest None = []
link_then rest (Some link) = link.from ∷ rest link.behind

abbrev pub chain : List Link → ℕ → Option ℕ → List ℕ
chain links zero at = []
chain links (suc n) None = []
chain links (suc n) (Some key) = link_then (chain links n) (slice_get links key)

-- for each vertex, where the linked arrows come from
abbrev pub sources : List Link → List (Option ℕ) → List (List ℕ)
sources links firsts = map (chain links (length links)) firsts

abbrev pub IsBelow : ℕ → Option ℕ → Type 0
IsBelow n None = Unit {0}
IsBelow n (Some key) = key < n

-- a link leads to an earlier one, and the first of a vertex is there
pub record AreLinked (links : List Link) (firsts : List (Option ℕ)) : Type 0 where
  pub falls : (key : ℕ) (link : Link) → slice_get links key ≡ Some link → IsBelow key link.behind
  pub there : (v : ℕ) → IsBelow (length links) (slice_index_or firsts v None)
