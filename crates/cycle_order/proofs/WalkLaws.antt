-- Walks over the connections of a node.
use Rattle.std.proofs.Common.{ℕ, ◌≡◌, List, [], ◌∷◌, map, Bool, true, false, Option, None, Some, inl, inr, refl, sym, ◌∙◌, subst, eq-eqb}
use Rattle.std.specs.Prelude.{◌==◌, if◌then◌else◌, slice_get}
use Rattle.std.proofs.lemmas.Bool.{ne_eqb}
use Rattle.law_base.specs.Members.{IsIn, AreDistinct}
use Rattle.conn_graph.specs.declared.edges.Edge.{Edge}
use Rattle.cycle_order.proofs.Lists.{IsIn-map}
use Rattle.conn_graph.specs.Walks.{Walk, behind, next_step}

-- what of a walk is left behind a cell
abbrev pub rest_behind : Walk → ℕ → Walk
rest_behind [] cell = []
rest_behind (step ∷ steps) cell = if step.0 == cell then steps else rest_behind steps cell

abbrev pub rest_of : Walk → Option ℕ → Walk
rest_of walk None = walk
rest_of walk (Some cell) = rest_behind walk cell

abbrev pub cells : Walk → List ℕ
cells walk = map (λ step. step.0) walk

abbrev pub steps_edges : Walk → List Edge
steps_edges walk = map (λ step. step.1) walk

behind_is : (walk : Walk) (cell : ℕ) → behind walk cell ≡ slice_get (rest_behind walk cell) 0
behind_is [] cell = refl
behind_is (step ∷ steps) cell = by_test (step.0 == cell) (behind_is steps cell)
  where
    by_test : (b : Bool) → behind steps cell ≡ slice_get (rest_behind steps cell) 0 → (if b then slice_get steps 0 else behind steps cell) ≡ slice_get (if b then steps else rest_behind steps cell) 0
    by_test true below = refl
    by_test false below = below

pub next_is : (walk : Walk) (after : Option ℕ) → next_step walk after ≡ slice_get (rest_of walk after) 0
next_is walk None = refl
next_is walk (Some cell) = behind_is walk cell

-- a list with a first item
pub first_is : {X : Type 0} (xs : List X) (x : X) → slice_get xs 0 ≡ Some x → (ys : List X) × (xs ≡ x ∷ ys)
first_is [] x e = absurd cc
first_is (y ∷ ys) x e = (ys, cc)

pub none_first : {X : Type 0} (xs : List X) → slice_get xs 0 ≡ None → xs ≡ []
none_first [] e = refl
none_first (y ∷ ys) e = absurd cc

-- a step of the rest is a step of the walk
in_rest_behind : (walk : Walk) (cell : ℕ) (s : ℕ × Edge) → IsIn s (rest_behind walk cell) → IsIn s walk
in_rest_behind [] cell s h = absurd h
in_rest_behind (w ∷ ws) cell s h = by_test (w.0 == cell) (in_rest_behind ws cell s) h
  where
    by_test : (b : Bool) → (IsIn s (rest_behind ws cell) → IsIn s ws) → IsIn s (if b then ws else rest_behind ws cell) → IsIn s (w ∷ ws)
    by_test true below h = inr h
    by_test false below h = inr (below h)

in_rest : (walk : Walk) (after : Option ℕ) (s : ℕ × Edge) → IsIn s (rest_of walk after) → IsIn s walk
in_rest walk None s h = h
in_rest walk (Some cell) s h = in_rest_behind walk cell s h

pub cell_in : (walk : Walk) (after : Option ℕ) (cell : ℕ) (edge : Edge) (steps : Walk) → rest_of walk after ≡ (cell, edge) ∷ steps → IsIn cell (cells walk)
cell_in walk after cell edge steps e = IsIn-map (λ (s : ℕ × Edge). s.0) walk (cell, edge) (in_rest walk after (cell, edge) (subst (λ xs. IsIn (cell, edge) xs) (sym e) (inl refl)))

pub edge_in : (walk : Walk) (after : Option ℕ) (cell : ℕ) (edge : Edge) (steps : Walk) → rest_of walk after ≡ (cell, edge) ∷ steps → IsIn edge (steps_edges walk)
edge_in walk after cell edge steps e = IsIn-map (λ (s : ℕ × Edge). s.1) walk (cell, edge) (in_rest walk after (cell, edge) (subst (λ xs. IsIn (cell, edge) xs) (sym e) (inl refl)))

behind_first : (walk : Walk) (step : ℕ) (edge : Edge) (steps : Walk) → walk ≡ (step, edge) ∷ steps → rest_behind walk step ≡ steps
behind_first walk step edge steps e = subst (λ xs. rest_behind xs step ≡ steps) (sym e) (by_test (step == step) (eq-eqb step step refl))
  where
    by_test : (b : Bool) → b ≡ true → (if b then steps else rest_behind steps step) ≡ steps
    by_test true t = refl
    by_test false t = absurd cc

behind_other : (w : ℕ × Edge) (ws : Walk) (step : ℕ) → (w.0 ≡ step → ⊥) → rest_behind (w ∷ ws) step ≡ rest_behind ws step
behind_other w ws step ne = by_test (w.0 == step) (ne_eqb w.0 step ne)
  where
    by_test : (b : Bool) → b ≡ false → (if b then ws else rest_behind ws step) ≡ rest_behind ws step
    by_test true t = absurd cc
    by_test false t = refl

behind_step : (walk : Walk) (after step : ℕ) (edge : Edge) (steps : Walk) → AreDistinct (cells walk) → rest_behind walk after ≡ (step, edge) ∷ steps → rest_behind walk step ≡ steps
behind_step [] after step edge steps d e = absurd cc
behind_step (w ∷ ws) after step edge steps d e = by_test (w.0 == after) (behind_step ws after step edge steps d.1) e
  where
    apart : IsIn step (cells ws) → w.0 ≡ step → ⊥
    apart h same = d.0 (subst (λ x. IsIn x (cells ws)) (sym same) h)

    by_test : (b : Bool) → (rest_behind ws after ≡ (step, edge) ∷ steps → rest_behind ws step ≡ steps) → (if b then ws else rest_behind ws after) ≡ (step, edge) ∷ steps → rest_behind (w ∷ ws) step ≡ steps
    by_test true below e = behind_other w ws step (apart (subst (λ xs. IsIn step (cells xs)) (sym e) (inl refl))) ∙ behind_first ws step edge steps e
    by_test false below e = behind_other w ws step (apart (cell_in ws (Some after) step edge steps e)) ∙ below e

-- behind the cell of a step, what was behind the step is left
pub rest_steps : (walk : Walk) (after : Option ℕ) (step : ℕ) (edge : Edge) (steps : Walk) → AreDistinct (cells walk) → rest_of walk after ≡ (step, edge) ∷ steps → rest_of walk (Some step) ≡ steps
rest_steps walk None step edge steps d e = behind_first walk step edge steps e
rest_steps walk (Some cell) step edge steps d e = behind_step walk cell step edge steps d e
