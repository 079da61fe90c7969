-- Members of lists that are made of others.
use Rattle.std.proofs.Common.{ℕ, zero, suc, ◌≡◌, ◌+◌, ◌<◌, ◌≤◌, List, [], ◌∷◌, ◌++◌, map, ◌⊎◌, inl, inr, refl, ap, ap₂, subst, arith}
use Rattle.std.specs.List.{flat_map, range_with_len}
use Rattle.law_base.specs.Members.{IsIn}
use Rattle.law_base.proofs.Members.{IsIn-append_first, IsIn-append_second}

pub IsIn-map : {X Y : Type 0} (f : X → Y) (xs : List X) (x : X) → IsIn x xs → IsIn (f x) (map f xs)
IsIn-map f [] x h = absurd h
IsIn-map f (y ∷ ys) x (inl e) = inl (ap f e)
IsIn-map f (y ∷ ys) x (inr h) = inr (IsIn-map f ys x h)

pub IsIn-flat_map : {X Y : Type 0} (f : X → List Y) (xs : List X) (x : X) (y : Y) → IsIn x xs → IsIn y (f x) → IsIn y (flat_map f xs)
IsIn-flat_map f [] x y h k = absurd h
IsIn-flat_map f (z ∷ zs) x y (inl e) k = IsIn-append_first (f z) (flat_map f zs) y (subst (λ v. IsIn y (f v)) e k)
IsIn-flat_map f (z ∷ zs) x y (inr h) k = IsIn-append_second (f z) (flat_map f zs) y (IsIn-flat_map f zs x y h k)

pub IsIn-range : (a n v : ℕ) → a ≤ v → v < a + n → IsIn v (range_with_len a n)
IsIn-range a zero v low high = absurd (omega arith)
IsIn-range a (suc n) v low high = elim (first v a low) [ inl e ↦ inl e | inr l ↦ inr (IsIn-range (a + 1) n v (omega arith) (omega arith)) ]
  where
    first : (v a : ℕ) → a ≤ v → (v ≡ a) ⊎ (a + 1 ≤ v)
    first v a low = grind arith

pub same_flat_map : {X Y : Type 0} (f g : X → List Y) (xs : List X) → ((x : X) → IsIn x xs → f x ≡ g x) → flat_map f xs ≡ flat_map g xs
same_flat_map f g [] h = refl
same_flat_map f g (x ∷ xs) h = ap₂ (λ ys zs. ys ++ zs) (h x (inl refl)) (same_flat_map f g xs (λ y k. h y (inr k)))
