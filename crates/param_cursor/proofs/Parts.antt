-- Quotients and remainders, and a step of both.
use Rattle.std.proofs.Common.{ℕ, ℤ, pos, negsuc, ◌≡◌, ◌+◌, ◌-◌, ◌*◌, ◌/◌, ◌%◌, ◌<◌, ◌≤◌, ◌+ℤ◌, ◌-ℤ◌, ◌*ℤ◌, neg_ℤ, ◌≤ℤ◌, ◌^◌, FitsSigned, arith, ap, ◌∙◌, inl, inr}
use Rattle.std.specs.Int.{int_div_euclid, int_rem_euclid, w64, w128}
use borrow.Author.Differences.{up, down}
use Rattle.std.specs.Prelude.{unsigned_abs}
use Rattle.std.proofs.lemmas.Int.{ints}
use Rattle.std.proofs.lemmas.Nat.{mul-le}
use Rattle.param_events.proofs.Order.{order}

whole : (a d : ℕ) → 0 < d → a / d * d + a % d ≡ a
whole a d some = omega arith

rest_below : (a d : ℕ) → 0 < d → a % d < d
rest_below a d some = omega arith

pub parts : (z : ℤ) (d : ℕ) → 0 < d → int_div_euclid z (pos d) *ℤ pos d +ℤ int_rem_euclid z (pos d) ≡ z
parts (pos a) d some = let w = whole a d some in omega (arith, ints)
parts (negsuc a) d some = let w = whole a d some in let r = rest_below a d some in omega (arith, ints)

bounds : (z : ℤ) → unsigned_abs z ≤ 2 ^ 112 → (neg_ℤ (pos (2 ^ 112)) ≤ℤ z) × (z ≤ℤ pos (2 ^ 112))
bounds (pos n) h = (omega (arith, ints), omega (arith, ints))
bounds (negsuc n) h = (omega (arith, ints), omega (arith, ints))

of_bounds : (z : ℤ) → neg_ℤ (pos (2 ^ 114)) ≤ℤ z → z ≤ℤ pos (2 ^ 114) → FitsSigned w128 z
of_bounds (pos n) l h = record { sfits = omega (arith, ints) }
of_bounds (negsuc n) l h = record { sfits = omega (arith, ints) }

-- omega does not know how a sum of whole numbers is multiplied: hand it the sum's parts, multiplied
pub distrib : (v s : ℤ) (d : ℕ) → (v +ℤ s) *ℤ pos d ≡ v *ℤ pos d +ℤ s *ℤ pos d
distrib v s d =
    let e : up (v +ℤ s) + down v + down s ≡ up v + up s + down (v +ℤ s) = omega (arith, ints) in
    let f : (up (v +ℤ s) + down v + down s) * d ≡ (up v + up s + down (v +ℤ s)) * d = ap (λ k. k * d) e in
    omega (arith, ints)

pub step_below : (v s : ℤ) (r t d : ℕ) → (v +ℤ s) *ℤ pos d +ℤ pos (r + t) ≡ (v *ℤ pos d +ℤ pos r) +ℤ (s *ℤ pos d +ℤ pos t)
step_below v s r t d = let h = distrib v s d in omega (arith, ints)

pub step_over : (v s : ℤ) (r t d : ℕ) → t < d → d - t ≤ r → (v +ℤ s +ℤ pos 1) *ℤ pos d +ℤ pos (r - (d - t)) ≡ (v *ℤ pos d +ℤ pos r) +ℤ (s *ℤ pos d +ℤ pos t)
step_over v s r t d low l = let h = distrib v s d in let k = distrib (v +ℤ s) (pos 1) d in omega (arith, ints, h, k)

pub parts_abs : (z : ℤ) (d : ℕ) → 0 < d → int_div_euclid z (pos d) *ℤ pos d +ℤ pos (unsigned_abs (int_rem_euclid z (pos d))) ≡ z
parts_abs (pos a) d some = parts (pos a) d some
parts_abs (negsuc a) d some = parts (negsuc a) d some

pub euclid_parts : (z d : ℤ) → pos 1 ≤ℤ d → int_div_euclid z d *ℤ d +ℤ pos (unsigned_abs (int_rem_euclid z d)) ≡ z
euclid_parts z (pos k) some = parts_abs z k (omega (arith, ints))
euclid_parts z (negsuc k) some = absurd (omega (arith, ints))

rest_small : (z : ℤ) (d : ℕ) → 0 < d → unsigned_abs (int_rem_euclid z (pos d)) < d
rest_small (pos a) d some = rest_below a d some
rest_small (negsuc a) d some = let r = rest_below a d some in omega (arith, ints)

-- what is left of a number after its quotient was taken away
pub rest_is : (z q : ℤ) (d : ℕ) → 0 < d → q ≡ int_div_euclid z (pos d) → (r : ℕ) × (z -ℤ q *ℤ pos d ≡ pos r) × (r < d)
rest_is z q d some e =
    let r = unsigned_abs (int_rem_euclid z (pos d)) in
    let whole : q *ℤ pos d +ℤ pos r ≡ z = ap (λ x. x *ℤ pos d +ℤ pos r) e ∙ parts_abs z d some in
    (r, omega (arith, ints, whole), rest_small z d some)

pub product_fits : (z p : ℤ) (r d : ℕ) → z -ℤ p ≡ pos r → r < d → d < 2 ^ 64 → unsigned_abs z ≤ 2 ^ 34 * d → FitsSigned w128 p
product_fits z p r d e l h small = let b = bounds z (omega (arith, small, h)) in of_bounds p (omega (arith, ints, b, e)) (omega (arith, ints, b, e))

pub rest_fits : (r : ℕ) → r < 2 ^ 64 → FitsSigned w128 (pos r)
rest_fits r l = record { sfits = omega arith }

small_bounds : (z : ℤ) → unsigned_abs z ≤ 2 ^ 34 → (neg_ℤ (pos (2 ^ 34)) ≤ℤ z) × (z ≤ℤ pos (2 ^ 34))
small_bounds (pos n) h = (omega (arith, ints), omega (arith, ints))
small_bounds (negsuc n) h = (omega (arith, ints), omega (arith, ints))

small_fits : (z : ℤ) → neg_ℤ (pos (2 ^ 40)) ≤ℤ z → z ≤ℤ pos (2 ^ 40) → FitsSigned w64 z
small_fits (pos n) l h = record { sfits = omega (arith, ints) }
small_fits (negsuc n) l h = record { sfits = omega (arith, ints) }

below_by : (a k d : ℕ) → 0 < d → a * d ≤ k * d → a ≤ k
below_by a k d some h = elim (order a k) [
  | inl l ↦ l
  | inr m ↦ let up = mul-le (k + 1) d a d (omega arith) (omega arith) in absurd (omega (arith, up, h))
]

-- a quotient of a number that is no more than so many divisors
pub quotient_within : (k : ℕ) (v z : ℤ) (r d : ℕ) → v *ℤ pos d +ℤ pos r ≡ z → r < d → unsigned_abs z ≤ k * d → unsigned_abs v ≤ k
quotient_within k (pos a) z r d e l h = let m : unsigned_abs (pos a *ℤ pos d +ℤ pos r) ≡ unsigned_abs z = ap unsigned_abs e in below_by a k d (omega arith) (omega (arith, ints, m, h))
quotient_within k (negsuc a) z r d e l h =
    let m : unsigned_abs (negsuc a *ℤ pos d +ℤ pos r) ≡ unsigned_abs z = ap unsigned_abs e in
    let below : a * d + 1 ≤ k * d = omega (arith, ints, m, h, l) in
    let up = below_by a k d (omega arith) (omega (arith, below)) in
    elim (order k a) [
      | inl more ↦ let same : a ≡ k = omega (arith, up, more) in absurd (omega (arith, below, ap (λ x. x * d) same))
      | inr less ↦ less
    ]

pub quotient_small : (v z : ℤ) (r d : ℕ) → v *ℤ pos d +ℤ pos r ≡ z → r < d → unsigned_abs z ≤ 2 ^ 34 * d → unsigned_abs v ≤ 2 ^ 34
quotient_small v z r d = quotient_within (2 ^ 34) v z r d

pub sum_is_small : (v s : ℤ) → unsigned_abs v ≤ 2 ^ 34 → unsigned_abs s ≤ 2 ^ 34 → FitsSigned w64 (v +ℤ s)
sum_is_small v s a b = small_fits (v +ℤ s) (omega (arith, ints, small_bounds v a, small_bounds s b)) (omega (arith, ints, small_bounds v a, small_bounds s b))

pub next_is_small : (v s : ℤ) → unsigned_abs v ≤ 2 ^ 34 → unsigned_abs s ≤ 2 ^ 34 → FitsSigned w64 (v +ℤ s +ℤ pos 1)
next_is_small v s a b = small_fits (v +ℤ s +ℤ pos 1) (omega (arith, ints, small_bounds v a, small_bounds s b)) (omega (arith, ints, small_bounds v a, small_bounds s b))
