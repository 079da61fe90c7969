-- Sums and greatest numbers, one more item at a time.
use Rattle.std.proofs.Common.{ℕ, zero, suc, ℤ, ◌≡◌, ◌+◌, ◌<◌, ◌≤◌, ◌+ℤ◌, length, List, [], ◌∷◌, map, take, slice_index_or, refl, arith}
use Rattle.std.specs.Prelude.{max}
use Rattle.std.proofs.lemmas.Int.{ints}
use Rattle.wa_base.specs.declared.graph_names.Mode.{Mode}
use Rattle.wa_base.specs.declared.graph_names.Mode.TheVariants.{Max, ClampedMax, Explicit}
use Rattle.mix_rules.specs.Counts.{greatest, input_count}
use Rattle.mix_rules.specs.Mixing.{total}
use Rattle.meaning.specs.Lists.{since}

pub total_more : {X : Type 0} (f : X → ℤ) (xs : List X) (i : ℕ) (d : X) → i < length xs → total (map f (take (suc i) xs)) ≡ total (map f (take i xs)) +ℤ f (slice_index_or xs i d)
total_more f [] i d l = absurd (omega arith)
total_more f (x ∷ xs) zero d l = omega (arith, ints)
total_more f (x ∷ xs) (suc i) d l = let before = total_more f xs i d (omega arith) in omega (arith, ints, before)

pub greatest_more : {X : Type 0} (f : X → ℕ) (xs : List X) (i : ℕ) (d : X) → i < length xs → greatest (map f (take (suc i) xs)) ≡ max (greatest (map f (take i xs))) (f (slice_index_or xs i d))
greatest_more f [] i d l = absurd (omega arith)
greatest_more f (x ∷ xs) zero d l = omega arith
greatest_more f (x ∷ xs) (suc i) d l = let before = greatest_more f xs i d (omega arith) in omega (arith, before)

pub greatest_low : (xs : List ℕ) → 1 ≤ greatest xs
greatest_low [] = omega arith
greatest_low (x ∷ xs) = let more = greatest_low xs in omega (arith, more)

-- the number of channels of an input rests on the greatest of those of its connections
pub by_greatest : (mode : Mode) (channels : ℕ) (xs : List ℕ) → input_count mode channels (greatest xs ∷ []) ≡ input_count mode channels xs
by_greatest Max channels xs = let low = greatest_low xs in omega (arith, low)
by_greatest ClampedMax channels xs = let low = greatest_low xs in omega (arith, low)
by_greatest Explicit channels xs = refl

-- the greatest number at so many moments
pub greatest_since : (at : ℕ → ℕ) (first n : ℕ) → greatest (since at first (suc n)) ≡ max (greatest (since at first n)) (at (first + n))
greatest_since at first n = omega arith
