-- Membership in lists.
use Rattle.std.proofs.Common.{◌≡◌, ◌+◌, length, List, [], ◌∷◌, ◌++◌, map, Bool, true, false, cond, ◌||◌, ◌⊎◌, inl, inr, refl, sym, ◌∙◌, ap, arith}
use Rattle.std.specs.List.{filter, list_any}
use Rattle.law_base.specs.Members.{IsIn, AreDistinct}

pub same_map : {X Y : Type 0} (f g : X → Y) (xs : List X) → ((x : X) → IsIn x xs → f x ≡ g x) → map f xs ≡ map g xs
same_map f g [] h = refl
same_map f g (x ∷ xs) h = let first = h x (inl refl) in let rest = same_map f g xs (λ y k. h y (inr k)) in cc

filter_step : {X : Type 0} (p : X → Bool) (x y : X) (ys rest : List X) (b : Bool) → p y ≡ b → (IsIn x rest → IsIn x ys × (p x ≡ true))
    → IsIn x (cond b (y ∷ rest) rest) → IsIn x (y ∷ ys) × (p x ≡ true)
filter_step p x y ys rest true e below (inl same) = (inl same, ap p same ∙ e)
filter_step p x y ys rest true e below (inr h) = let k = below h in (inr k.0, k.1)
filter_step p x y ys rest false e below h = let k = below h in (inr k.0, k.1)

pub IsIn-filter : {X : Type 0} (p : X → Bool) (xs : List X) (x : X) → IsIn x (filter p xs) → IsIn x xs × (p x ≡ true)
IsIn-filter p [] x h = absurd h
IsIn-filter p (y ∷ ys) x h = filter_step p x y ys (filter p ys) (p y) refl (IsIn-filter p ys x) h

pub IsIn-append : {X : Type 0} (xs ys : List X) (x : X) → IsIn x (xs ++ ys) → IsIn x xs ⊎ IsIn x ys
IsIn-append [] ys x h = inr h
IsIn-append (z ∷ zs) ys x (inl e) = inl (inl e)
IsIn-append (z ∷ zs) ys x (inr h) = elim (IsIn-append zs ys x h) [ inl k ↦ inl (inr k) | inr k ↦ inr k ]

pub IsIn-append_first : {X : Type 0} (xs ys : List X) (x : X) → IsIn x xs → IsIn x (xs ++ ys)
IsIn-append_first [] ys x h = absurd h
IsIn-append_first (z ∷ zs) ys x (inl e) = inl e
IsIn-append_first (z ∷ zs) ys x (inr h) = inr (IsIn-append_first zs ys x h)

pub IsIn-append_second : {X : Type 0} (xs ys : List X) (x : X) → IsIn x ys → IsIn x (xs ++ ys)
IsIn-append_second [] ys x h = h
IsIn-append_second (z ∷ zs) ys x h = inr (IsIn-append_second zs ys x h)

-- a test that one member passes
pub list_any-IsIn : {X : Type 0} (p : X → Bool) (xs : List X) (x : X) → IsIn x xs → p x ≡ true → list_any p xs ≡ true
list_any-IsIn p [] x h e = absurd h
list_any-IsIn p (y ∷ ys) x (inl same) e = grind (arith, ap p (sym same) ∙ e)
list_any-IsIn p (y ∷ ys) x (inr h) e = grind (arith, list_any-IsIn p ys x h e)

any_step : {X : Type 0} (p : X → Bool) (y : X) (ys : List X) (b : Bool) → p y ≡ b → (list_any p ys ≡ true → (x : X) × IsIn x ys × (p x ≡ true))
    → (b || list_any p ys) ≡ true → (x : X) × IsIn x (y ∷ ys) × (p x ≡ true)
any_step p y ys true same below e = (y, inl refl, same)
any_step p y ys false same below e = let k = below e in (k.0, inr k.1, k.2)

-- the member that passes
pub IsIn-list_any : {X : Type 0} (p : X → Bool) (xs : List X) → list_any p xs ≡ true → (x : X) × IsIn x xs × (p x ≡ true)
IsIn-list_any p [] e = absurd cc
IsIn-list_any p (y ∷ ys) e = any_step p y ys (p y) refl (IsIn-list_any p ys) e

-- the list without the place at which x was found
abbrev pub without : {E : Type 0} (x : E) (xs : List E) → IsIn x xs → List E
without x [] h = absurd h
without x (y ∷ ys) (inl e) = ys
without x (y ∷ ys) (inr h) = y ∷ without x ys h

pub length-without : {E : Type 0} (x : E) (xs : List E) (h : IsIn x xs) → length (without x xs h) + 1 ≡ length xs
length-without x [] h = absurd h
length-without x (y ∷ ys) (inl e) = omega arith
length-without x (y ∷ ys) (inr h) = let e = length-without x ys h in omega arith

pub IsIn-without : {E : Type 0} (x : E) (xs : List E) (h : IsIn x xs) (y : E) → IsIn y xs → (y ≡ x) ⊎ IsIn y (without x xs h)
IsIn-without x [] h y k = absurd h
IsIn-without x (z ∷ zs) (inl e) y (inl k) = inl (k ∙ sym e)
IsIn-without x (z ∷ zs) (inl e) y (inr k) = inr k
IsIn-without x (z ∷ zs) (inr h) y (inl k) = inr (inl k)
IsIn-without x (z ∷ zs) (inr h) y (inr k) = elim (IsIn-without x zs h y k) [ inl e ↦ inl e | inr m ↦ inr (inr m) ]

pub IsIn-filter_from : {X : Type 0} (p : X → Bool) (xs : List X) (x : X) → IsIn x xs → p x ≡ true → IsIn x (filter p xs)
IsIn-filter_from p [] x h e = absurd h
IsIn-filter_from p (y ∷ ys) x (inl same) e = rw (ap p (sym same) ∙ e) (inl same)
IsIn-filter_from p (y ∷ ys) x (inr h) e = by_test (p y) (IsIn-filter_from p ys x h e)
  where
    by_test : (b : Bool) → IsIn x (filter p ys) → IsIn x (cond b (y ∷ filter p ys) (filter p ys))
    by_test true k = inr k
    by_test false k = k

pub AreDistinct-filter : {X : Type 0} (p : X → Bool) (xs : List X) → AreDistinct xs → AreDistinct (filter p xs)
AreDistinct-filter p [] h = tt
AreDistinct-filter p (x ∷ xs) h = by_test (p x) (AreDistinct-filter p xs h.1)
  where
    by_test : (b : Bool) → AreDistinct (filter p xs) → AreDistinct (cond b (x ∷ filter p xs) (filter p xs))
    by_test true d = ((λ k. h.0 (IsIn-filter p xs x k).0), d)
    by_test false d = d
