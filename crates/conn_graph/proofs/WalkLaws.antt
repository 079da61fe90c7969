-- Going along a walk.
use Rattle.std.proofs.Common.{ℕ, ◌≡◌, [], ◌∷◌, map, Bool, true, false, Option, None, Some, slice_get, inl, inr, ap, sym}
use Rattle.std.specs.Prelude.{if◌then◌else◌, ◌==◌}
use Rattle.law_base.specs.Members.{IsIn}
use Rattle.conn_graph.specs.declared.edges.Edge.{Edge}
use Rattle.conn_graph.specs.Walks.{Walk, behind, next_step, IsOnWalk}

first_on : (walk : Walk) (step : ℕ × Edge) → slice_get walk 0 ≡ Some step → IsOnWalk walk (Some step.0)
first_on [] step h = absurd cc
first_on (x ∷ xs) step h = let same : x ≡ step = cc in inl (ap (λ s. s.0) (sym same))

behind_on : (walk : Walk) (place : ℕ) (step : ℕ × Edge) → behind walk place ≡ Some step → IsOnWalk walk (Some step.0)
behind_on [] place step h = absurd cc
behind_on (x ∷ xs) place step h = by_test (x.0 == place) h (behind_on xs place step)
  where
    by_test : (b : Bool) → (if b then slice_get xs 0 else behind xs place) ≡ Some step → (behind xs place ≡ Some step → IsOnWalk xs (Some step.0)) → IsOnWalk (x ∷ xs) (Some step.0)
    by_test true k below = inr (first_on xs step k)
    by_test false k below = inr (below k)

-- the cell of a step is on the walk
pub step_on : (walk : Walk) (after : Option ℕ) (cell : ℕ) (edge : Edge) → Some (cell, edge) ≡ next_step walk after → IsIn cell (map (λ step. step.0) walk)
step_on walk None cell edge h = first_on walk (cell, edge) (sym h)
step_on walk (Some place) cell edge h = behind_on walk place (cell, edge) (sym h)
