-- Lists of which some items are left out.
use Rattle.std.proofs.Common.{ℕ, zero, suc, ◌≡◌, ◌≤◌, ◌+◌, Bool, true, false, cond, not, ◌||◌, List, [], ◌∷◌, ◌++◌, map, filter, length, slice_index_or, Some, None, option_map, option_and_then, inl, inr, refl, sym, ◌∙◌, ap, arith, one-add}
use Rattle.std.specs.Prelude.{slice_get, find, nat_lt}
use Rattle.std.specs.List.{list_any, position, position_or_len, sum_by}
use Rattle.std.proofs.lemmas.Bool.Decides.{nat_tests}
use Rattle.std.proofs.lemmas.List.Sums.{sum_by-cons}
use Rattle.law_base.specs.Members.{IsIn}
use Rattle.prune.proofs.Flags.{Flags, is_kept, part_number, whole_number, whole_kept, part-whole}

-- ---- the items whose flag is set

abbrev pub kept_of : {X : Type 0} → Flags → List X → List X
kept_of [] xs = xs
kept_of (f ∷ fs) [] = []
kept_of (true ∷ fs) (x ∷ xs) = x ∷ kept_of fs xs
kept_of (false ∷ fs) (x ∷ xs) = kept_of fs xs

pub length-kept_of : {X : Type 0} (fs : Flags) (xs : List X) → length (kept_of fs xs) ≡ part_number fs (length xs)
length-kept_of [] xs = refl
length-kept_of (true ∷ fs) [] = refl
length-kept_of (false ∷ fs) [] = refl
length-kept_of (true ∷ fs) (x ∷ xs) = ap suc (length-kept_of fs xs)
length-kept_of (false ∷ fs) (x ∷ xs) = length-kept_of fs xs

-- one item more
pub kept_of_kept : {X : Type 0} (fs : Flags) (xs : List X) (x : X) → is_kept fs (length xs) ≡ true → kept_of fs (xs ++ x ∷ []) ≡ kept_of fs xs ++ x ∷ []
kept_of_kept [] xs x kept = refl
kept_of_kept (true ∷ []) [] x kept = refl
kept_of_kept (true ∷ (f ∷ fs)) [] x kept = refl
kept_of_kept (false ∷ fs) [] x kept = absurd cc
kept_of_kept (true ∷ fs) (y ∷ ys) x kept = ap (λ zs. y ∷ zs) (kept_of_kept fs ys x kept)
kept_of_kept (false ∷ fs) (y ∷ ys) x kept = kept_of_kept fs ys x kept

pub kept_of_other : {X : Type 0} (fs : Flags) (xs : List X) (x : X) → is_kept fs (length xs) ≡ false → kept_of fs (xs ++ x ∷ []) ≡ kept_of fs xs
kept_of_other [] xs x other = absurd cc
kept_of_other (true ∷ fs) [] x other = absurd cc
kept_of_other (false ∷ []) [] x other = refl
kept_of_other (false ∷ (f ∷ fs)) [] x other = refl
kept_of_other (true ∷ fs) (y ∷ ys) x other = ap (λ zs. y ∷ zs) (kept_of_other fs ys x other)
kept_of_other (false ∷ fs) (y ∷ ys) x other = kept_of_other fs ys x other

pub kept_of-map : {X Y : Type 0} (f : X → Y) (fs : Flags) (xs : List X) → kept_of fs (map f xs) ≡ map f (kept_of fs xs)
kept_of-map f [] xs = refl
kept_of-map f (b ∷ fs) [] = refl
kept_of-map f (true ∷ fs) (x ∷ xs) = ap (λ ys. f x ∷ ys) (kept_of-map f fs xs)
kept_of-map f (false ∷ fs) (x ∷ xs) = kept_of-map f fs xs

-- the item at a number
pub at_part : {X : Type 0} (fs : Flags) (xs : List X) (n : ℕ) (d : X) → is_kept fs n ≡ true → slice_index_or (kept_of fs xs) (part_number fs n) d ≡ slice_index_or xs n d
at_part [] xs n d kept = refl
at_part (f ∷ fs) [] n d kept = refl
at_part (true ∷ fs) (x ∷ xs) zero d kept = refl
at_part (false ∷ fs) (x ∷ xs) zero d kept = absurd cc
at_part (true ∷ fs) (x ∷ xs) (suc n) d kept = at_part fs xs n d kept
at_part (false ∷ fs) (x ∷ xs) (suc n) d kept = at_part fs xs n d kept

pub at_whole : {X : Type 0} (fs : Flags) (xs : List X) (i : ℕ) (d : X) → slice_index_or (kept_of fs xs) i d ≡ slice_index_or xs (whole_number fs i) d
at_whole fs xs i d = ap (λ k. slice_index_or (kept_of fs xs) k d) (sym (part-whole fs i)) ∙ at_part fs xs (whole_number fs i) d (whole_kept fs i)

pub get_part : {X : Type 0} (fs : Flags) (xs : List X) (n : ℕ) → is_kept fs n ≡ true → slice_get (kept_of fs xs) (part_number fs n) ≡ slice_get xs n
get_part [] xs n kept = refl
get_part (f ∷ fs) [] n kept = refl
get_part (true ∷ fs) (x ∷ xs) zero kept = refl
get_part (false ∷ fs) (x ∷ xs) zero kept = absurd cc
get_part (true ∷ fs) (x ∷ xs) (suc n) kept = get_part fs xs n kept
get_part (false ∷ fs) (x ∷ xs) (suc n) kept = get_part fs xs n kept

-- what is summed over fewer items is no more
pub sum_of_kept : {X : Type 0} (f : X → ℕ) (fs : Flags) (xs : List X) → sum_by f (kept_of fs xs) ≤ sum_by f xs
sum_of_kept f [] xs = omega arith
sum_of_kept f (b ∷ fs) [] = omega arith
sum_of_kept f (true ∷ fs) (x ∷ xs) = omega (arith, sum_by-cons f x (kept_of fs xs), sum_by-cons f x xs, sum_of_kept f fs xs)
sum_of_kept f (false ∷ fs) (x ∷ xs) = omega (arith, sum_by-cons f x xs, sum_of_kept f fs xs)

pub length_of_kept : {X : Type 0} (fs : Flags) (xs : List X) → length (kept_of fs xs) ≤ length xs
length_of_kept [] xs = omega arith
length_of_kept (b ∷ fs) [] = omega arith
length_of_kept (true ∷ fs) (x ∷ xs) = let l = length_of_kept fs xs in omega (arith, l)
length_of_kept (false ∷ fs) (x ∷ xs) = let l = length_of_kept fs xs in omega (arith, l)

-- ---- the items that pass a test

pub filter-append : {X : Type 0} (p : X → Bool) (xs ys : List X) → filter p (xs ++ ys) ≡ filter p xs ++ filter p ys
filter-append p [] ys = refl
filter-append {X} p (x ∷ xs) ys = by_test (p x) (filter-append p xs ys)
  where
    by_test : (b : Bool) → filter p (xs ++ ys) ≡ filter p xs ++ filter p ys
        → cond b (x ∷ filter p (xs ++ ys)) (filter p (xs ++ ys)) ≡ cond b (x ∷ filter p xs) (filter p xs) ++ filter p ys
    by_test true e = ap (λ zs. x ∷ zs) e
    by_test false e = e

pub filter_comm : {X : Type 0} (p s : X → Bool) (xs : List X) → filter p (filter s xs) ≡ filter s (filter p xs)
filter_comm p s [] = refl
filter_comm {X} p s (x ∷ xs) = by_tests (p x) (s x) refl refl (filter_comm p s xs)
  where
    by_tests : (a b : Bool) → p x ≡ a → s x ≡ b → filter p (filter s xs) ≡ filter s (filter p xs)
        → filter p (cond b (x ∷ filter s xs) (filter s xs)) ≡ filter s (cond a (x ∷ filter p xs) (filter p xs))
    by_tests true true is is' e =
        ap (λ t. cond t (x ∷ filter p (filter s xs)) (filter p (filter s xs))) is ∙ ap (λ zs. x ∷ zs) e ∙ sym (ap (λ t. cond t (x ∷ filter s (filter p xs)) (filter s (filter p xs))) is')
    by_tests true false is is' e = e ∙ sym (ap (λ t. cond t (x ∷ filter s (filter p xs)) (filter s (filter p xs))) is')
    by_tests false true is is' e = ap (λ t. cond t (x ∷ filter p (filter s xs)) (filter p (filter s xs))) is ∙ e
    by_tests false false is is' e = e

pub length-filter : {X : Type 0} (p : X → Bool) (xs : List X) → length (filter p xs) ≤ length xs
length-filter p [] = omega arith
length-filter {X} p (x ∷ xs) = by_test (p x) (length-filter p xs)
  where
    by_test : (b : Bool) → length (filter p xs) ≤ length xs → length (cond b (x ∷ filter p xs) (filter p xs)) ≤ suc (length xs)
    by_test true l = omega (arith, l)
    by_test false l = omega (arith, l)

pub filter_none : {X : Type 0} (p : X → Bool) (xs : List X) → ((x : X) → IsIn x xs → p x ≡ false) → filter p xs ≡ []
filter_none p [] none = refl
filter_none p (x ∷ xs) none = ap (λ b. cond b (x ∷ filter p xs) (filter p xs)) (none x (inl refl)) ∙ filter_none p xs (λ y h. none y (inr h))

pub filter_all : {X : Type 0} (p : X → Bool) (xs : List X) → ((x : X) → IsIn x xs → p x ≡ true) → filter p xs ≡ xs
filter_all p [] all = refl
filter_all p (x ∷ xs) all = ap (λ b. cond b (x ∷ filter p xs) (filter p xs)) (all x (inl refl)) ∙ ap (λ zs. x ∷ zs) (filter_all p xs (λ y h. all y (inr h)))

-- ---- items that are named anew

-- What is done to each item that passes, and then the name, is the name and then what is done to each item.
pub map_both : {X Y : Type 0} (p : X → Bool) (name : X → Y) (change : X → X) (change' : Y → Y) (xs : List X)
    → ((x : X) → p (change x) ≡ p x) → ((x : X) → p x ≡ true → name (change x) ≡ change' (name x)) → map name (filter p (map change xs)) ≡ map change' (map name (filter p xs))
map_both p name change change' [] stays same = refl
map_both {X} {Y} p name change change' (x ∷ xs) stays same =
    ap (λ t. map name (cond t (change x ∷ filter p (map change xs)) (filter p (map change xs)))) (stays x) ∙ by_test (p x) refl (map_both p name change change' xs stays same)
  where
    by_test : (b : Bool) → p x ≡ b → map name (filter p (map change xs)) ≡ map change' (map name (filter p xs))
        → map name (cond b (change x ∷ filter p (map change xs)) (filter p (map change xs))) ≡ map change' (map name (cond b (x ∷ filter p xs) (filter p xs)))
    by_test true is e = ap (λ y. y ∷ map name (filter p (map change xs))) (same x is) ∙ ap (λ zs. change' (name x) ∷ zs) e
    by_test false is e = e

-- a change of items that do not pass is not seen
pub map_unseen : {X : Type 0} (p : X → Bool) (change : X → X) (xs : List X) → ((x : X) → p (change x) ≡ p x) → ((x : X) → p x ≡ true → change x ≡ x) → filter p (map change xs) ≡ filter p xs
map_unseen p change [] stays same = refl
map_unseen {X} p change (x ∷ xs) stays same =
    ap (λ t. cond t (change x ∷ filter p (map change xs)) (filter p (map change xs))) (stays x) ∙ by_test (p x) refl (map_unseen p change xs stays same)
  where
    by_test : (b : Bool) → p x ≡ b → filter p (map change xs) ≡ filter p xs
        → cond b (change x ∷ filter p (map change xs)) (filter p (map change xs)) ≡ cond b (x ∷ filter p xs) (filter p xs)
    by_test true is e = ap (λ y. y ∷ filter p (map change xs)) (same x is) ∙ ap (λ zs. x ∷ zs) e
    by_test false is e = e

-- a test of what is named anew, where it is one of the names
pub any_named : {X Y : Type 0} (p : X → Bool) (name : X → Y) (test : Y → Bool) (test' : X → Bool) (xs : List X)
    → ((x : X) → IsIn x xs → p x ≡ true → test (name x) ≡ test' x) → ((x : X) → IsIn x xs → test' x ≡ true → p x ≡ true) → list_any test (map name (filter p xs)) ≡ list_any test' xs
any_named p name test test' [] same within = refl
any_named {X} {Y} p name test test' (x ∷ xs) same within =
    by_tests (p x) (test' x) (same x (inl refl)) (within x (inl refl)) refl refl (any_named p name test test' xs (λ y h. same y (inr h)) (λ y h. within y (inr h)))
  where
    by_tests : (a b : Bool) → (p x ≡ true → test (name x) ≡ test' x) → (test' x ≡ true → p x ≡ true) → p x ≡ a → test' x ≡ b → list_any test (map name (filter p xs)) ≡ list_any test' xs
        → list_any test (map name (cond a (x ∷ filter p xs) (filter p xs))) ≡ (b || list_any test' xs)
    by_tests true b same within is is' e = ap (λ t. t || list_any test (map name (filter p xs))) (same is ∙ is') ∙ ap (λ t. b || t) e
    by_tests false true same within is is' e = absurd (let t = within is' in cc)
    by_tests false false same within is is' e = e

-- ---- the first item that passes

-- a place behind one item more
shifted : {X : Type 0} (x : X) (xs : List X) (m n : ℕ)
    → option_and_then (slice_get (x ∷ xs)) (cond (nat_lt (1 + m) (suc n)) (Some (1 + m)) None) ≡ option_and_then (slice_get xs) (cond (nat_lt m n) (Some m) None)
shifted x xs m n = ap (λ k. option_and_then (slice_get (x ∷ xs)) (cond (nat_lt k (suc n)) (Some k) None)) (one-add m) ∙ by_test (nat_lt m n) refl
  where
    by_test : (b : Bool) → nat_lt m n ≡ b → option_and_then (slice_get (x ∷ xs)) (cond (nat_lt (suc m) (suc n)) (Some (suc m)) None) ≡ option_and_then (slice_get xs) (cond b (Some m) None)
    by_test true is = let low : nat_lt (suc m) (suc n) ≡ true = grind (arith, nat_tests) in ap (λ t. option_and_then (slice_get (x ∷ xs)) (cond t (Some (suc m)) None)) low
    by_test false is = let high : nat_lt (suc m) (suc n) ≡ false = grind (arith, nat_tests) in ap (λ t. option_and_then (slice_get (x ∷ xs)) (cond t (Some (suc m)) None)) high

-- the item at the place where the first one stands is the first one
pub at_first : {X : Type 0} (test : X → Bool) (xs : List X) → option_and_then (slice_get xs) (position test xs) ≡ find test xs
at_first test [] = refl
at_first {X} test (x ∷ xs) = by_test (test x) (at_first test xs)
  where
    by_test : (b : Bool) → option_and_then (slice_get xs) (position test xs) ≡ find test xs
        → option_and_then (slice_get (x ∷ xs)) (cond (nat_lt (cond (not b) (1 + position_or_len test xs) 0) (suc (length xs))) (Some (cond (not b) (1 + position_or_len test xs) 0)) None) ≡ cond b (Some x) (find test xs)
    by_test true e =
        let first : nat_lt 0 (suc (length xs)) ≡ true = grind (arith, nat_tests) in
        ap (λ t. option_and_then (slice_get (x ∷ xs)) (cond t (Some 0) None)) first
    by_test false e = shifted x xs (position_or_len test xs) (length xs) ∙ e

-- the first of those that are named anew
pub find_named : {X Y : Type 0} (p : X → Bool) (name : X → Y) (test : Y → Bool) (test' : X → Bool) (xs : List X)
    → ((x : X) → p x ≡ true → test (name x) ≡ test' x) → ((x : X) → test' x ≡ true → p x ≡ true) → find test (map name (filter p xs)) ≡ option_map name (find test' xs)
find_named p name test test' [] same within = refl
find_named {X} {Y} p name test test' (x ∷ xs) same within =
    by_tests (p x) (test' x) refl refl (find_named p name test test' xs same within)
  where
    by_tests : (a b : Bool) → p x ≡ a → test' x ≡ b → find test (map name (filter p xs)) ≡ option_map name (find test' xs)
        → find test (map name (cond a (x ∷ filter p xs) (filter p xs))) ≡ option_map name (cond b (Some x) (find test' xs))
    by_tests true true is is' e = ap (λ t. cond t (Some (name x)) (find test (map name (filter p xs)))) (same x is ∙ is')
    by_tests true false is is' e = ap (λ t. cond t (Some (name x)) (find test (map name (filter p xs)))) (same x is ∙ is') ∙ e
    by_tests false true is is' e = absurd (let t = within x is' in cc)
    by_tests false false is is' e = e
