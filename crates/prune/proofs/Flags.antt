-- Nodes that are kept, and the numbers that they have where the others are left out.
use Rattle.std.proofs.Common.{ℕ, zero, suc, ◌≡◌, ◌<◌, ◌↔◌, Bool, true, false, List, [], ◌∷◌, map, length, slice_index_or, refl, sym, ◌∙◌, ap, subst, arith}
use Rattle.std.specs.Prelude.{◌==◌, nat_le, nat_lt}
use Rattle.std.proofs.lemmas.Bool.Decides.{nat_tests}
use Rattle.conn_graph.proofs.EndLaws.{nat_same, same_nat}
use Rattle.prune.specs.Parts.{Numbering}
use Rattle.prune.proofs.Members.{same_truth}
use Rattle.prune.proofs.Numbers.{IsRising}

-- Of each node of the whole, in order of creation, whether it is kept. Past the end of the list all nodes are.
abbrev pub Flags : Type 0
Flags = List Bool

abbrev pub is_kept : Flags → ℕ → Bool
is_kept [] n = true
is_kept (f ∷ fs) zero = f
is_kept (f ∷ fs) (suc n) = is_kept fs n

-- How many nodes before one are kept: its number in the part, if it is kept.
abbrev pub part_number : Flags → ℕ → ℕ
part_number [] n = n
part_number (f ∷ fs) zero = zero
part_number (true ∷ fs) (suc n) = suc (part_number fs n)
part_number (false ∷ fs) (suc n) = part_number fs n

-- the number in the whole of a node of the part
abbrev pub whole_number : Flags → Numbering
whole_number [] i = i
whole_number (true ∷ fs) zero = zero
whole_number (true ∷ fs) (suc i) = suc (whole_number fs i)
whole_number (false ∷ fs) i = suc (whole_number fs i)

-- ---- one numbering takes back the other

pub whole_kept : (fs : Flags) (i : ℕ) → is_kept fs (whole_number fs i) ≡ true
whole_kept [] i = refl
whole_kept (true ∷ fs) zero = refl
whole_kept (true ∷ fs) (suc i) = whole_kept fs i
whole_kept (false ∷ fs) i = whole_kept fs i

pub part-whole : (fs : Flags) (i : ℕ) → part_number fs (whole_number fs i) ≡ i
part-whole [] i = refl
part-whole (true ∷ fs) zero = refl
part-whole (true ∷ fs) (suc i) = ap suc (part-whole fs i)
part-whole (false ∷ fs) i = part-whole fs i

pub whole-part : (fs : Flags) (n : ℕ) → is_kept fs n ≡ true → whole_number fs (part_number fs n) ≡ n
whole-part [] n kept = refl
whole-part (true ∷ fs) zero kept = refl
whole-part (false ∷ fs) zero kept = absurd cc
whole-part (true ∷ fs) (suc n) kept = ap suc (whole-part fs n kept)
whole-part (false ∷ fs) (suc n) kept = ap suc (whole-part fs n kept)

-- ---- their order

-- a later node of the part is a later one of the whole
pub whole_rising : (fs : Flags) → IsRising (whole_number fs)
whole_rising [] i k l = l
whole_rising (true ∷ fs) zero zero l = absurd (omega arith)
whole_rising (true ∷ fs) zero (suc k) l = omega arith
whole_rising (true ∷ fs) (suc i) zero l = absurd (omega arith)
whole_rising (true ∷ fs) (suc i) (suc k) l = let up = whole_rising fs i k (omega arith) in omega arith
whole_rising (false ∷ fs) i k l = let up = whole_rising fs i k l in omega arith

-- a node comes before the nodes of the part just where its counterpart comes before those of the whole
pub below_part : (fs : Flags) (i n : ℕ) → i < part_number fs n ↔ whole_number fs i < n
below_part [] i n = ((λ l. l), (λ l. l))
below_part (true ∷ fs) i zero = ((λ l. absurd (omega arith)), (λ l. absurd (omega arith)))
below_part (false ∷ fs) i zero = ((λ l. absurd (omega arith)), (λ l. absurd (omega arith)))
below_part (true ∷ fs) zero (suc n) = ((λ l. omega arith), (λ l. omega arith))
below_part (true ∷ fs) (suc i) (suc n) =
    let same = below_part fs i n in
    ((λ l. let up = same.0 (omega arith) in omega (arith, up)), (λ l. let down = same.1 (omega arith) in omega (arith, down)))
below_part (false ∷ fs) i (suc n) =
    let same = below_part fs i n in
    ((λ l. let up = same.0 l in omega (arith, up)), (λ l. same.1 (omega arith)))

-- the part's number of a kept node lies below those of the nodes after it
pub part_below : (fs : Flags) (n k : ℕ) → is_kept fs n ≡ true → n < k → part_number fs n < part_number fs k
part_below fs n k kept l = (below_part fs (part_number fs n) k).1 (subst (λ m. m < k) (sym (whole-part fs n kept)) l)

pub below_back : (fs : Flags) (n k : ℕ) → is_kept fs n ≡ true → part_number fs n < part_number fs k → n < k
below_back fs n k kept l = subst (λ m. m < k) (whole-part fs n kept) ((below_part fs (part_number fs n) k).0 l)

-- ---- a number of its own

pub one_part : (fs : Flags) (a b : ℕ) → is_kept fs a ≡ true → is_kept fs b ≡ true → part_number fs a ≡ part_number fs b → a ≡ b
one_part fs a b kept kept' same = sym (whole-part fs a kept) ∙ ap (whole_number fs) same ∙ whole-part fs b kept'

pub same_part : (fs : Flags) (a b : ℕ) → is_kept fs a ≡ true → is_kept fs b ≡ true → (part_number fs a == part_number fs b) ≡ (a == b)
same_part fs a b kept kept' = same_truth _ _
    (λ h. subst (λ n. (a == n) ≡ true) (one_part fs a b kept kept' (nat_same (part_number fs a) (part_number fs b) h)) (same_nat a))
    (λ h. subst (λ n. (part_number fs a == part_number fs n) ≡ true) (nat_same a b h) (same_nat (part_number fs a)))

-- kept nodes stand in the part in the order in which they stand in the whole
pub same_less : (fs : Flags) (a b : ℕ) → is_kept fs a ≡ true → nat_lt (part_number fs a) (part_number fs b) ≡ nat_lt a b
same_less fs a b kept = same_truth _ _
    (λ h. let l : part_number fs a < part_number fs b = grind (arith, nat_tests) in let m = below_back fs a b kept l in grind (arith, nat_tests, m))
    (λ h. let l : a < b = grind (arith, nat_tests) in let m = part_below fs a b kept l in grind (arith, nat_tests, m))

pub same_at_most : (fs : Flags) (a b : ℕ) → is_kept fs b ≡ true → nat_le (part_number fs a) (part_number fs b) ≡ nat_le a b
same_at_most fs a b kept = turned (part_number fs b) (part_number fs a) b a (same_less fs b a kept)
  where
    turned : (p q m n : ℕ) → nat_lt p q ≡ nat_lt m n → nat_le q p ≡ nat_le n m
    turned p q m n same = both (nat_lt m n) refl same
      where
        both : (b : Bool) → nat_lt m n ≡ b → nat_lt p q ≡ b → nat_le q p ≡ nat_le n m
        both true is is' = let low : nat_le n m ≡ false = grind (arith, nat_tests) in let low' : nat_le q p ≡ false = grind (arith, nat_tests) in low' ∙ sym low
        both false is is' = let high : nat_le n m ≡ true = grind (arith, nat_tests) in let high' : nat_le q p ≡ true = grind (arith, nat_tests) in high' ∙ sym high

-- the first node stays the first one
pub part_zero : (fs : Flags) → part_number fs 0 ≡ 0
part_zero [] = refl
part_zero (f ∷ fs) = refl

pub same_zero : (fs : Flags) (n : ℕ) → is_kept fs 0 ≡ true → is_kept fs n ≡ true → (part_number fs n == 0) ≡ (n == 0)
same_zero fs n first kept = ap (λ z. part_number fs n == z) (sym (part_zero fs)) ∙ same_part fs n 0 kept first

-- ---- flags that are made from a list

pub is_kept-get_or : (fs : Flags) (n : ℕ) → is_kept fs n ≡ slice_index_or fs n true
is_kept-get_or [] n = refl
is_kept-get_or (f ∷ fs) zero = refl
is_kept-get_or (f ∷ fs) (suc n) = is_kept-get_or fs n

pub is_kept-map : {X : Type 0} (f : X → Bool) (xs : List X) (n : ℕ) (d : X) → n < length xs → is_kept (map f xs) n ≡ f (slice_index_or xs n d)
is_kept-map f [] n d l = absurd (omega arith)
is_kept-map f (x ∷ xs) zero d l = refl
is_kept-map f (x ∷ xs) (suc n) d l = is_kept-map f xs n d (omega arith)
