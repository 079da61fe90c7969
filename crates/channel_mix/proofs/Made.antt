-- Lists that are made item by item.
use Rattle.std.proofs.Common.{ℕ, zero, suc, ℤ, pos, ◌≡◌, ◌+◌, ◌<◌, ◌≤◌, ◌++◌, [], ◌∷◌, length, List, take, slice_index_or, slice_set, ◌⊎◌, inl, inr, refl, sym, ap, ◌∙◌, arith, subst}
use Rattle.std.proofs.lemmas.List.{get_or-set_same, get_or-set_other, get_or-take, get_or_append_left, append_assoc}

-- the first i items are those of f
abbrev pub IsMade : (ℕ → ℤ) → ℕ → List ℤ → Type 0
IsMade f i xs = (k : ℕ) → k < i → slice_index_or xs k (pos 0) ≡ f k

pub made_more : (f : ℕ → ℤ) (i : ℕ) (xs : List ℤ) (x : ℤ) → IsMade f i xs → i < length xs → x ≡ f i → IsMade f (i + 1) (slice_set xs i x)
made_more f i xs x made l is k low = elim (here_or_before k i low) [
  | inl same ↦ subst (λ j. slice_index_or (slice_set xs i x) j (pos 0) ≡ f j) (sym same) (get_or-set_same xs i x (pos 0) l ∙ is)
  | inr before ↦ get_or-set_other xs i k x (pos 0) (λ e. absurd (omega arith)) ∙ made k before
]
  where
    here_or_before : (k i : ℕ) → k < i + 1 → (k ≡ i) ⊎ (k < i)
    here_or_before k i low = grind arith

-- the front of a longer list that was written over
pub front : (len : ℕ) (xs rest : List ℤ) → length xs ≤ len → take (length xs) (take len (xs ++ rest)) ≡ xs
front len [] rest l = refl
front zero (x ∷ xs) rest l = absurd (omega arith)
front (suc len) (x ∷ xs) rest l = ap (λ ys. x ∷ ys) (front len xs rest (omega arith))

pub front_is : (n len : ℕ) (xs mid rest : List ℤ) → length xs ≡ n → n ≤ len → take n (take len ((xs ++ mid) ++ rest)) ≡ xs
front_is n len xs mid rest e l =
    ap (λ ys. take n (take len ys)) (append_assoc xs mid rest)
    ∙ subst (λ k. take k (take len (xs ++ (mid ++ rest))) ≡ xs) e (front len xs (mid ++ rest) (rw e l))

-- what was written
pub front_at : (n len : ℕ) (xs mid rest : List ℤ) (k : ℕ) → length xs ≡ n → n ≤ len → slice_index_or (take n (take len ((xs ++ mid) ++ rest))) k (pos 0) ≡ slice_index_or xs k (pos 0)
front_at n len xs mid rest k e l = ap (λ ys. slice_index_or ys k (pos 0)) (front_is n len xs mid rest e l)

-- the front of what was written back
pub front_of : (len : ℕ) (xs mid rest : List ℤ) (k : ℕ) → k < length xs → k < len → slice_index_or (take len ((xs ++ mid) ++ rest)) k (pos 0) ≡ slice_index_or xs k (pos 0)
front_of len xs mid rest k low there =
    get_or-take len ((xs ++ mid) ++ rest) k (pos 0) there
    ∙ ap (λ (ys : List ℤ). slice_index_or ys k (pos 0)) (append_assoc xs mid rest)
    ∙ get_or_append_left xs (mid ++ rest) (pos 0) k low
