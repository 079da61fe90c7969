-- Sums of products.
use Rattle.std.proofs.Common.{ℕ, ℤ, pos, zero, suc, ◌≡◌, ◌+◌, ◌<◌, ◌≤◌, ◌+ℤ◌, ◌*ℤ◌, List, [], ◌∷◌, length, take, get_or, ap, refl, ◌∙◌, arith, add-one}
use Rattle.std.specs.Prelude.{min}
use Rattle.std.proofs.lemmas.Int.{ints}
use Rattle.node_table.specs.Filters.{dot}

dot_step : (i : ℕ) (cs xs : List ℤ) → i < length cs → i < length xs → dot (take (suc i) cs) xs ≡ dot (take i cs) xs +ℤ get_or cs i (pos 0) *ℤ get_or xs i (pos 0)
dot_step i [] xs l m = absurd (omega arith)
dot_step i (c ∷ cs) [] l m = absurd (omega arith)
dot_step zero (c ∷ cs) (x ∷ xs) l m = omega (arith, ints)
dot_step (suc i) (c ∷ cs) (x ∷ xs) l m = let more = dot_step i cs xs (omega arith) (omega arith) in omega (arith, ints, more)

pub dot_more : (i : ℕ) (cs xs : List ℤ) → i < length cs → i < length xs → dot (take (i + 1) cs) xs ≡ dot (take i cs) xs +ℤ get_or cs i (pos 0) *ℤ get_or xs i (pos 0)
dot_more i cs xs l m = ap (λ n. dot (take n cs) xs) (add-one i) ∙ dot_step i cs xs l m

-- where one of the lists has ended, the sum is the whole one
pub dot_all : (i : ℕ) (cs xs : List ℤ) → min (length cs) (length xs) ≤ i → dot (take i cs) xs ≡ dot cs xs
dot_all zero [] xs l = refl
dot_all (suc i) [] xs l = refl
dot_all zero (c ∷ cs) [] l = refl
dot_all zero (c ∷ cs) (x ∷ xs) l = absurd (omega arith)
dot_all (suc i) (c ∷ cs) [] l = refl
dot_all (suc i) (c ∷ cs) (x ∷ xs) l = ap (λ z. c *ℤ x +ℤ z) (dot_all i cs xs (omega arith))
