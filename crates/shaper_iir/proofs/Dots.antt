-- Sums of products, item by item.
use Rattle.std.proofs.Common.{ℕ, ℤ, pos, zero, suc, ◌≡◌, ◌+◌, ◌-◌, ◌<◌, ◌+ℤ◌, ◌*ℤ◌, List, [], ◌∷◌, length, take, drop, get_or, ap, sym, refl, ◌∙◌, arith, add-one}
use Rattle.std.proofs.lemmas.Int.{ints}
use Rattle.node_table.specs.Filters.{dot}

dot_step : (i : ℕ) (cs xs : List ℤ) → i < length cs → i < length xs → dot (drop i cs) (drop i xs) ≡ get_or cs i (pos 0) *ℤ get_or xs i (pos 0) +ℤ dot (drop (suc i) cs) (drop (suc i) xs)
dot_step i [] xs l m = absurd (omega arith)
dot_step i (c ∷ cs) [] l m = absurd (omega arith)
dot_step zero (c ∷ cs) (x ∷ xs) l m = refl
dot_step (suc i) (c ∷ cs) (x ∷ xs) l m = dot_step i cs xs (omega arith) (omega arith)

pub dot_next : (i : ℕ) (cs xs : List ℤ) → i < length cs → i < length xs → dot (drop i cs) (drop i xs) ≡ get_or cs i (pos 0) *ℤ get_or xs i (pos 0) +ℤ dot (drop (i + 1) cs) (drop (i + 1) xs)
dot_next i cs xs l m = dot_step i cs xs l m ∙ ap (λ k. get_or cs i (pos 0) *ℤ get_or xs i (pos 0) +ℤ dot (drop k cs) (drop k xs)) (sym (add-one i))

-- what is added to the sum is taken from what is left
pub added : (total sum next here product rest : ℤ) → next ≡ sum +ℤ product → here ≡ product +ℤ rest → sum +ℤ here ≡ total → next +ℤ rest ≡ total
added total sum next here product rest a b e = omega (arith, ints)

take_whole : (xs : List ℤ) → take (length xs) xs ≡ xs
take_whole [] = refl
take_whole (x ∷ xs) = ap (λ ys. x ∷ ys) (take_whole xs)

-- the items from the second one on
pub rest_is : (xs : List ℤ) → take (length xs - 1) (drop 1 xs) ≡ drop 1 xs
rest_is [] = refl
rest_is (x ∷ xs) = let e : length (x ∷ xs) - 1 ≡ length xs = omega arith in ap (λ n. take n xs) e ∙ take_whole xs

-- one more product
pub dot_more : (i : ℕ) (cs xs : List ℤ) → i < length cs → i < length xs → dot (take (suc i) cs) xs ≡ dot (take i cs) xs +ℤ get_or cs i (pos 0) *ℤ get_or xs i (pos 0)
dot_more i [] xs l m = absurd (omega arith)
dot_more i (c ∷ cs) [] l m = absurd (omega arith)
dot_more zero (c ∷ cs) (x ∷ xs) l m = omega (arith, ints)
dot_more (suc i) (c ∷ cs) (x ∷ xs) l m = let more = dot_more i cs xs (omega arith) (omega arith) in omega (arith, ints, more)
