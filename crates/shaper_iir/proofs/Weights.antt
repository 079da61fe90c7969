-- How far sums of products can be from 0.
use Rattle.std.proofs.Common.{ℕ, ℤ, pos, zero, suc, ◌≡◌, ◌+◌, ◌*◌, ◌<◌, ◌≤◌, ◌*ℤ◌, List, [], ◌∷◌, length, take, get_or, arith, max}
use Rattle.std.specs.Prelude.{unsigned_abs}
use Rattle.std.proofs.lemmas.Int.{unsigned_abs-mul}
use Rattle.std.proofs.lemmas.Nat.{mul-le}
use native.Mathlib.Nat.{add-mul}
use Rattle.std.proofs.lemmas.List.Sums.{sum_by-cons, sum_by-take-le}
use Rattle.node_table.specs.Filters.{dot}
use Rattle.shaper_iir.specs.Histories.{in_front}
use Rattle.shaper_iir.specs.Scales.{weight, greatest}
use Rattle.shaper_iir.proofs.Bounds.{abs_sum}

-- a sum of products is at most the weight times the greatest item
both_within : (a w b g m : ℕ) → b ≤ m → g ≤ m → a * b + w * g ≤ (a + w) * m
both_within a w b g m h k =
    let one = mul-le a b a m (omega arith) h in
    let rest = mul-le w g w m (omega arith) k in
    let whole = add-mul a w m in
    omega (arith, one, rest, whole)

pub dot_within : (cs xs : List ℤ) → unsigned_abs (dot cs xs) ≤ weight cs * greatest xs
dot_within [] xs = omega arith
dot_within (c ∷ cs) [] = omega arith
dot_within (c ∷ cs) (x ∷ xs) =
    let sum = abs_sum (c *ℤ x) (dot cs xs) in
    let product = unsigned_abs-mul c x in
    let rest = dot_within cs xs in
    let all = both_within (unsigned_abs c) (weight cs) (unsigned_abs x) (greatest xs) (max (unsigned_abs x) (greatest xs)) (omega arith) (omega arith) in
    let whole : weight (c ∷ cs) ≡ unsigned_abs c + weight cs = sum_by-cons unsigned_abs c cs in
    rw whole (omega (arith, sum, product, rest, all))

-- one more sample that is within reach
pub greatest_more : (xs : List ℤ) (i reach : ℕ) → i < length xs → greatest (take i xs) ≤ reach → unsigned_abs (get_or xs i (pos 0)) ≤ reach → greatest (take (suc i) xs) ≤ reach
greatest_more [] i reach l before here = absurd (omega arith)
greatest_more (x ∷ xs) zero reach l before here = omega arith
greatest_more (x ∷ xs) (suc i) reach l before here = let more = greatest_more xs i reach (omega arith) (omega arith) here in omega arith

pub greatest_take : (n : ℕ) (xs : List ℤ) (reach : ℕ) → greatest xs ≤ reach → greatest (take n xs) ≤ reach
greatest_take zero xs reach l = omega arith
greatest_take (suc n) [] reach l = l
greatest_take (suc n) (x ∷ xs) reach l = let rest = greatest_take n xs reach (omega arith) in omega arith

-- the sum of the first products is small where all of them are
pub prefix_within : (cs xs : List ℤ) (i most : ℕ) → weight cs * greatest xs ≤ most → unsigned_abs (dot (take i cs) xs) ≤ most
prefix_within cs xs i most room =
    let here = dot_within (take i cs) xs in
    let part = sum_by-take-le unsigned_abs cs i in
    let product = mul-le (weight (take i cs)) (greatest xs) (weight cs) (greatest xs) part (omega arith) in
    omega (arith, here, product, room)

-- both sums of a filter together
pub both_small : (forward back inputs outputs : List ℤ) (reach most : ℕ) → (weight forward + weight back) * reach ≤ most
    → greatest inputs ≤ reach → greatest outputs ≤ reach → unsigned_abs (dot forward inputs) + unsigned_abs (dot back outputs) ≤ most
both_small forward back inputs outputs reach most room ins outs =
    let f = dot_within forward inputs in
    let b = dot_within back outputs in
    let all = both_within (weight forward) (weight back) (greatest inputs) (greatest outputs) reach ins outs in
    omega (arith, f, b, all, room)

-- one more sample within reach in front of those that are
pub front_small : (x : ℤ) (kept : List ℤ) (reach : ℕ) → greatest kept ≤ reach → unsigned_abs x ≤ reach → greatest (in_front x kept) ≤ reach
front_small x kept reach l m = let rest = greatest_take 19 kept reach l in omega arith
