-- Members of lists that are made of others.
use Rattle.std.proofs.Common.{ℕ, zero, suc, ◌≡◌, ◌+◌, ◌<◌, ◌≤◌, List, [], ◌∷◌, map, filter, Bool, true, false, cond, ◌⊎◌, inl, inr, refl, sym, ◌∙◌, ap, arith}
use Rattle.std.specs.List.{range_with_len}
use Rattle.law_base.specs.Members.{IsIn}

pub IsIn-map : {X Y : Type 0} (f : X → Y) (xs : List X) (x : X) → IsIn x xs → IsIn (f x) (map f xs)
IsIn-map f [] x h = absurd h
IsIn-map f (y ∷ ys) x (inl e) = inl (ap f e)
IsIn-map f (y ∷ ys) x (inr h) = inr (IsIn-map f ys x h)

-- the item that another one is made of
pub map-IsIn : {X Y : Type 0} (f : X → Y) (xs : List X) (y : Y) → IsIn y (map f xs) → (x : X) × IsIn x xs × (y ≡ f x)
map-IsIn f [] y h = absurd h
map-IsIn f (x ∷ xs) y (inl e) = (x, inl refl, e)
map-IsIn f (x ∷ xs) y (inr h) = let k = map-IsIn f xs y h in (k.0, inr k.1, k.2)

pub IsIn-range : (a n v : ℕ) → a ≤ v → v < a + n → IsIn v (range_with_len a n)
IsIn-range a zero v low high = absurd (omega arith)
IsIn-range a (suc n) v low high = elim (first v a low) [ inl e ↦ inl e | inr l ↦ inr (IsIn-range (a + 1) n v (omega arith) (omega arith)) ]
  where
    first : (v a : ℕ) → a ≤ v → (v ≡ a) ⊎ (a + 1 ≤ v)
    first v a low = grind arith

pub range-IsIn : (a n v : ℕ) → IsIn v (range_with_len a n) → v < a + n
range-IsIn a zero v h = absurd h
range-IsIn a (suc n) v (inl e) = omega (arith, e)
range-IsIn a (suc n) v (inr h) = let l = range-IsIn (a + 1) n v h in omega (arith, l)

-- ---- lists that pass a test

pub filter-map : {X Y : Type 0} (p : Y → Bool) (f : X → Y) (xs : List X) → filter p (map f xs) ≡ map f (filter (λ x. p (f x)) xs)
filter-map p f [] = refl
filter-map {X} {Y} p f (x ∷ xs) = by_test (p (f x)) (filter-map p f xs)
  where
    by_test : (b : Bool) → filter p (map f xs) ≡ map f (filter (λ y. p (f y)) xs)
        → cond b (f x ∷ filter p (map f xs)) (filter p (map f xs)) ≡ map f (cond b (x ∷ filter (λ y. p (f y)) xs) (filter (λ y. p (f y)) xs))
    by_test true e = ap (λ ys. f x ∷ ys) e
    by_test false e = e

pub same_filter : {X : Type 0} (p s : X → Bool) (xs : List X) → ((x : X) → IsIn x xs → p x ≡ s x) → filter p xs ≡ filter s xs
same_filter p s [] each = refl
same_filter p s (x ∷ xs) each =
    ap (λ b. cond b (x ∷ filter p xs) (filter p xs)) (each x (inl refl))
    ∙ ap (λ ys. cond (s x) (x ∷ ys) ys) (same_filter p s xs (λ y h. each y (inr h)))

-- what passes one test, which only items pass that pass another one too
pub filter_within : {X : Type 0} (p s : X → Bool) (xs : List X) → ((x : X) → IsIn x xs → p x ≡ true → s x ≡ true) → filter p (filter s xs) ≡ filter p xs
filter_within p s [] each = refl
filter_within {X} p s (x ∷ xs) each = by_test (s x) (p x) refl (λ t. each x (inl refl) t) (filter_within p s xs (λ y h. each y (inr h)))
  where
    by_test : (b d : Bool) → p x ≡ d → (p x ≡ true → b ≡ true) → filter p (filter s xs) ≡ filter p xs
        → filter p (cond b (x ∷ filter s xs) (filter s xs)) ≡ cond d (x ∷ filter p xs) (filter p xs)
    by_test true d is both e = ap (λ t. cond t (x ∷ filter p (filter s xs)) (filter p (filter s xs))) is ∙ ap (λ ys. cond d (x ∷ ys) ys) e
    by_test false true is both e = absurd (let t = both is in cc)
    by_test false false is both e = e

-- two tests are one where each follows from the other
pub same_truth : (a b : Bool) → (a ≡ true → b ≡ true) → (b ≡ true → a ≡ true) → a ≡ b
same_truth true b there back = sym (there refl)
same_truth false true there back = back refl
same_truth false false there back = refl
