-- The next cell of a list, as its links have it.
use Rattle.std.proofs.Common.{ℕ, ◌≡◌, [], ◌∷◌, ◌++◌, Bool, true, false, Option, None, Some, option_map, slice_get, inl, inr, refl, sym, ◌∙◌, ap, subst, arith, eq-eqb}
use Rattle.std.specs.Prelude.{◌==◌, if◌then◌else◌}
use Rattle.std.proofs.lemmas.Bool.{eqb-true}
use Rattle.std.proofs.lemmas.Bool.Decides.{nat_tests}
use Rattle.law_base.specs.Members.{IsIn, AreDistinct}
use Rattle.conn_graph.specs.declared.cells.Links.{Links}
use Rattle.conn_graph.specs.declared.edges.Edge.{Edge}
use Rattle.conn_graph.specs.Walks.{Walk, behind, next_step}
use Rattle.conn_graph.specs.Lists.{keys, first_of, IsLinked}

abbrev pub key_of : ℕ × Edge → ℕ
key_of step = step.0

pub first_key : (ws : Walk) → first_of ws None ≡ option_map key_of (slice_get ws 0)
first_key [] = refl
first_key (s ∷ ss) = refl

-- the links of a cell on a walk lead to the step behind it
pub behind_key : (at : ℕ → Option (Edge × Links)) (before : Option ℕ) (ws : Walk) (cell : ℕ) → IsLinked at before ws None → IsIn cell (keys ws)
    → (e : Edge) × (l : Links) × (at cell ≡ Some (e, l)) × (l.behind ≡ option_map key_of (behind ws cell))
behind_key at before [] cell h m = absurd m
behind_key at before (s ∷ ss) cell h m = by_test (s.0 == cell) refl m (behind_key at (Some s.0) ss cell h.1)
  where
    by_test : (b : Bool) → (s.0 == cell) ≡ b → IsIn cell (s.0 ∷ keys ss)
        → (IsIn cell (keys ss) → (e : Edge) × (l : Links) × (at cell ≡ Some (e, l)) × (l.behind ≡ option_map key_of (behind ss cell)))
        → (e : Edge) × (l : Links) × (at cell ≡ Some (e, l)) × (l.behind ≡ option_map key_of (if b then slice_get ss 0 else behind ss cell))
    by_test true is on below = (s.1, record { before = before; behind = first_of ss None }, ap at (sym (eqb-true s.0 cell is)) ∙ h.0, first_key ss)
    by_test false is (inl same) below = absurd (grind (arith, nat_tests))
    by_test false is (inr on) below = below on

first_in : (ws : Walk) (t : ℕ × Edge) → slice_get ws 0 ≡ Some t → IsIn t ws
first_in [] t e = absurd cc
first_in (s ∷ ss) t e = let same : s ≡ t = cc in inl (sym same)

behind_in : (ws : Walk) (cell : ℕ) (t : ℕ × Edge) → behind ws cell ≡ Some t → IsIn t ws
behind_in [] cell t e = absurd cc
behind_in (s ∷ ss) cell t e = by_test (s.0 == cell) e (behind_in ss cell t)
  where
    by_test : (b : Bool) → (if b then slice_get ss 0 else behind ss cell) ≡ Some t → (behind ss cell ≡ Some t → IsIn t ss) → IsIn t (s ∷ ss)
    by_test true h below = inr (first_in ss t h)
    by_test false h below = inr (below h)

-- a step is one of its walk
pub step_in : (ws : Walk) (after : Option ℕ) (t : ℕ × Edge) → next_step ws after ≡ Some t → IsIn t ws
step_in ws None t e = first_in ws t e
step_in ws (Some cell) t e = behind_in ws cell t e

-- the step at a place is behind the one before that place
pub behind_at : (ws : Walk) (s : ℕ × Edge) (front back : Walk) → AreDistinct (keys ws) → ws ≡ front ++ s ∷ back → behind ws s.0 ≡ slice_get back 0
behind_at ws s front back once split = ap (λ w. behind w s.0) split ∙ go front (subst (λ w. AreDistinct (keys w)) split once)
  where
    here : (b : Bool) → b ≡ true → (x y : Option (ℕ × Edge)) → (if b then x else y) ≡ x
    here true e x y = refl
    here false e x y = absurd cc

    go : (f : Walk) → AreDistinct (keys (f ++ s ∷ back)) → behind (f ++ s ∷ back) s.0 ≡ slice_get back 0
    go [] o = here (s.0 == s.0) (eq-eqb s.0 s.0 refl) (slice_get back 0) (behind back s.0)
    go (x ∷ f) o = other (x.0 == s.0) refl (go f o.1)
      where
        later : (g : Walk) → IsIn s.0 (keys (g ++ s ∷ back))
        later [] = inl refl
        later (y ∷ g) = inr (later g)

        other : (b : Bool) → (x.0 == s.0) ≡ b → behind (f ++ s ∷ back) s.0 ≡ slice_get back 0 → (if b then slice_get (f ++ s ∷ back) 0 else behind (f ++ s ∷ back) s.0) ≡ slice_get back 0
        other true is below = absurd (o.0 (subst (λ k. IsIn k (keys (f ++ s ∷ back))) (sym (eqb-true x.0 s.0 is)) (later f)))
        other false is below = below
