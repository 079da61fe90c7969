-- The values of a frame and of those before it.
use Rattle.std.proofs.Common.{ℕ, ℤ, zero, suc, ◌≡◌, ◌+◌, ◌-◌, ◌<◌, ◌≤◌, ◌+ℤ◌, ◌*ℤ◌, List, [], ◌∷◌, ◌++◌, length, ap, ap₂, refl, ◌∙◌, arith}
use Rattle.std.specs.Prelude.{min}
use Rattle.node_table.specs.Filters.{dot}
use Rattle.meaning.specs.Lists.{since}
use Rattle.equations.specs.Histories.{back_from}

-- of all that there is since a birth so many items are read as there are coefficients
pub dot_back : (cs : List ℤ) (u : ℕ → ℤ) (birth m f first count : ℕ) → (0 < m → birth + m + first ≡ f + 1) → count ≤ m → min (length cs) m ≤ count
    → dot cs (since u birth m) ≡ dot cs (back_from u f first count)
dot_back [] u birth m f first count at few enough = refl
dot_back (c ∷ cs) u birth zero f first zero at few enough = refl
dot_back (c ∷ cs) u birth zero f first (suc count) at few enough = absurd (omega arith)
dot_back (c ∷ cs) u birth (suc m) f first zero at few enough = absurd (omega arith)
dot_back (c ∷ cs) u birth (suc m) f first (suc count) at few enough =
    let whole : birth + suc m + first ≡ f + 1 = at (omega arith) in
    let here : birth + m ≡ f - first = omega (arith, whole) in
    ap₂ (λ x y. c *ℤ x +ℤ y) (ap u here) (dot_back cs u birth m f (first + 1) count (λ some. omega (arith, whole)) (omega arith) (omega arith))

-- one more of the values before
pub back_more : (at : ℕ → ℤ) (f first n : ℕ) → back_from at f first (suc n) ≡ back_from at f first n ++ at (f - (first + n)) ∷ []
back_more at f first zero = ap (λ k. at (f - k) ∷ []) (let e : first ≡ first + 0 = omega arith in e)
back_more at f first (suc n) =
    ap (λ xs. at (f - first) ∷ xs)
    (back_more at f (first + 1) n ∙ ap (λ k. back_from at f (first + 1) n ++ at (f - k) ∷ []) (let e : first + 1 + n ≡ first + suc n = omega arith in e))
