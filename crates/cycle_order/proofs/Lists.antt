-- Members of lists, and lists of numbers.
use Rattle.std.proofs.Common.{ℕ, zero, suc, ◌≡◌, ◌+◌, ◌-◌, ◌<◌, ◌≤◌, length, List, [], ◌∷◌, map, get_or, drop, Bool, ◌⊎◌, inl, inr, refl, sym, ◌∙◌, ap, arith, subst}
use Rattle.std.specs.List.{filter, flat_map, range_with_len}
use Rattle.std.proofs.lemmas.List.{drop_more}
use Rattle.law_base.specs.Members.{IsIn}
use Rattle.law_base.proofs.Members.{IsIn-append}
use Rattle.conn_graph.specs.declared.edges.Ports.{Ports}
use Rattle.conn_graph.specs.Ends.{numbers_from}

pub IsIn-get_or : {X : Type 0} (xs : List X) (i : ℕ) (d : X) → i < length xs → IsIn (get_or xs i d) xs
IsIn-get_or [] i d l = absurd (omega arith)
IsIn-get_or (x ∷ xs) zero d l = inl refl
IsIn-get_or (x ∷ xs) (suc i) d l = inr (IsIn-get_or xs i d (omega arith))

pub IsIn-drop : {X : Type 0} (xs : List X) (i : ℕ) (d : X) → i < length xs → IsIn (get_or xs i d) (drop i xs)
IsIn-drop xs i d l = subst (λ ys. IsIn (get_or xs i d) ys) (sym (drop_more xs i d l)) (inl refl)

pub IsIn-drop_more : {X : Type 0} (xs : List X) (i : ℕ) (x : X) → i < length xs → IsIn x (drop (i + 1) xs) → IsIn x (drop i xs)
IsIn-drop_more xs i x l h = subst (λ ys. IsIn x ys) (sym (drop_more xs i x l)) (inr h)

pub IsIn-map : {X Y : Type 0} (f : X → Y) (xs : List X) (x : X) → IsIn x xs → IsIn (f x) (map f xs)
IsIn-map f [] x h = absurd h
IsIn-map f (y ∷ ys) x (inl e) = inl (ap f e)
IsIn-map f (y ∷ ys) x (inr h) = inr (IsIn-map f ys x h)

-- what a member is the image of
pub source_in : {X Y : Type 0} (f : X → Y) (xs : List X) (y : Y) → IsIn y (map f xs) → (x : X) × IsIn x xs × (y ≡ f x)
source_in f [] y h = absurd h
source_in f (x ∷ xs) y (inl e) = (x, inl refl, e)
source_in f (x ∷ xs) y (inr h) = let k = source_in f xs y h in (k.0, inr k.1, k.2)

pub IsIn-flat_map : {X Y : Type 0} (f : X → List Y) (xs : List X) (y : Y) → IsIn y (flat_map f xs) → (x : X) × IsIn x xs × IsIn y (f x)
IsIn-flat_map f [] y h = absurd h
IsIn-flat_map f (x ∷ xs) y h = elim (IsIn-append (f x) (flat_map f xs) y h) [
  | inl k ↦ (x, inl refl, k)
  | inr k ↦ let r = IsIn-flat_map f xs y k in (r.0, inr r.1, r.2)
]

pub filter_agrees : {X : Type 0} (p q : X → Bool) (xs : List X) → ((x : X) → IsIn x xs → p x ≡ q x) → filter p xs ≡ filter q xs
filter_agrees p q [] h = refl
filter_agrees p q (x ∷ xs) h = let first = h x (inl refl) in let rest = filter_agrees p q xs (λ y k. h y (inr k)) in cc

pub IsIn-range : (a n v : ℕ) → a ≤ v → v < a + n → IsIn v (range_with_len a n)
IsIn-range a zero v low high = absurd (omega arith)
IsIn-range a (suc n) v low high = elim (first v a low) [ inl e ↦ inl e | inr l ↦ inr (IsIn-range (a + 1) n v (omega arith) (omega arith)) ]
  where
    first : (v a : ℕ) → a ≤ v → (v ≡ a) ⊎ (a + 1 ≤ v)
    first v a low = grind arith

pub in_range : (a n v : ℕ) → IsIn v (range_with_len a n) → v < a + n
in_range a zero v h = absurd h
in_range a (suc n) v (inl e) = omega arith
in_range a (suc n) v (inr h) = let l = in_range (a + 1) n v h in omega arith

pub range_rest : (i n : ℕ) → i < n → range_with_len i (n - i) ≡ i ∷ range_with_len (i + 1) (n - (i + 1))
range_rest i n l = ap (range_with_len i) (let e : n - i ≡ suc (n - (i + 1)) = omega arith in e)

pub numbers_are : (i : ℕ) (ns : List Ports) → numbers_from i ns ≡ range_with_len i (length ns)
numbers_are i [] = refl
numbers_are i (n ∷ ns) = ap (λ xs. i ∷ xs) (numbers_are (suc i) ns ∙ ap (λ j. range_with_len j (length ns)) (omega arith))

pub IsIn-dropped : {X : Type 0} (xs : List X) (i : ℕ) (x : X) → IsIn x (drop i xs) → IsIn x xs
IsIn-dropped xs zero x h = h
IsIn-dropped [] (suc i) x h = absurd h
IsIn-dropped (y ∷ ys) (suc i) x h = inr (IsIn-dropped ys i x h)
