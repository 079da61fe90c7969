-- Quotient and remainder over whole numbers.
use Rattle.std.proofs.Common.{ℕ, ℤ, pos, negsuc, suc, ◌≡◌, ◌+◌, ◌-◌, ◌*◌, ◌^◌, ◌/◌, ◌<◌, ◌≤◌, ◌≤ℤ◌, ◌+ℤ◌, ◌-ℤ◌, ◌*ℤ◌, arith, ap, subst, ◌∙◌, ◌⊎◌, inl, inr, FitsSigned}
use Rattle.std.specs.Int.{int_div_euclid, w32, w64, w128}
use Rattle.std.specs.Prelude.{unsigned_abs}
use Rattle.std.proofs.lemmas.Int.{ints}
use Rattle.std.proofs.lemmas.Nat.{div-mul-add, mul-le}
use Rattle.wa_base.specs.Numbers.{rnd}
use Rattle.param_events.specs.Lines.{IsPartOf}
use Rattle.param_events.proofs.Rounding.{rnd_order}

quotient_is : (a k r m : ℕ) → r < m → a ≡ k * m + r → a / m ≡ k
quotient_is a k r m l e = ap (λ x. x / m) e ∙ div-mul-add k m r l

-- the quotient is the only number that leaves a remainder
pub euclid_is : (z q : ℤ) (r m : ℕ) → r < m → z ≡ q *ℤ pos m +ℤ pos r → int_div_euclid z (pos m) ≡ q
euclid_is (pos a) (pos k) r m l e = ap pos (quotient_is a k r m l (omega (arith, ints)))
euclid_is (pos a) (negsuc k) r m l e = absurd (omega (arith, ints))
euclid_is (negsuc a) (pos k) r m l e = absurd (omega (arith, ints))
euclid_is (negsuc a) (negsuc k) r m l e = ap negsuc (quotient_is a k (m - r - 1) m (omega arith) (omega (arith, ints)))

-- what is rounded from whole quotients stays, and the rounded share of a part lies between nothing and the whole
pub rnd_whole : (x : ℤ) (d : ℕ) → 0 < d → rnd (x *ℤ pos d) (pos d) ≡ x
rnd_whole x d some = euclid_is (pos 2 *ℤ (x *ℤ pos d) +ℤ pos d) x d (2 * d) (omega arith) (omega (arith, ints))

pub rnd_zero : (d : ℕ) → 0 < d → rnd (pos 0) (pos d) ≡ pos 0
rnd_zero d some = euclid_is (pos 2 *ℤ pos 0 +ℤ pos d) (pos 0) d (2 * d) (omega arith) (omega (arith, ints))

times_up : (x : ℤ) (n : ℕ) → pos 0 ≤ℤ x → pos 0 ≤ℤ (x *ℤ pos n)
times_up (pos a) n up = omega (arith, ints)
times_up (negsuc a) n up = absurd (omega (arith, ints))

times_down : (x : ℤ) (n : ℕ) → x ≤ℤ pos 0 → (x *ℤ pos n) ≤ℤ pos 0
times_down (pos a) n down = let z : a ≡ 0 = omega (arith, ints) in rw z (omega (arith, ints))
times_down (negsuc a) n down = omega (arith, ints)

times_more : (x : ℤ) (n d : ℕ) → pos 0 ≤ℤ x → n ≤ d → (x *ℤ pos n) ≤ℤ (x *ℤ pos d)
times_more (pos a) n d up l = let k = mul-le a n a d (omega arith) l in omega (arith, ints)
times_more (negsuc a) n d up l = absurd (omega (arith, ints))

times_less : (x : ℤ) (n d : ℕ) → x ≤ℤ pos 0 → n ≤ d → (x *ℤ pos d) ≤ℤ (x *ℤ pos n)
times_less (pos a) n d down l = let z : a ≡ 0 = omega (arith, ints) in rw z (omega (arith, ints))
times_less (negsuc a) n d down l = let k = mul-le (suc a) n (suc a) d (omega arith) l in omega (arith, ints)

-- the rounded share of a part lies between nothing and the whole
pub share_up : (x : ℤ) (n d : ℕ) → 0 < d → n ≤ d → pos 0 ≤ℤ x → (pos 0 ≤ℤ rnd (x *ℤ pos n) (pos d)) × (rnd (x *ℤ pos n) (pos d) ≤ℤ x)
share_up x n d some l up =
    let low : rnd (pos 0) (pos d) ≤ℤ rnd (x *ℤ pos n) (pos d) = rnd_order (pos 0) (x *ℤ pos n) d some (times_up x n up) in
    let high : rnd (x *ℤ pos n) (pos d) ≤ℤ rnd (x *ℤ pos d) (pos d) = rnd_order (x *ℤ pos n) (x *ℤ pos d) d some (times_more x n d up l) in
    (subst (λ z. z ≤ℤ rnd (x *ℤ pos n) (pos d)) (rnd_zero d some) low, subst (λ z. rnd (x *ℤ pos n) (pos d) ≤ℤ z) (rnd_whole x d some) high)

pub share_down : (x : ℤ) (n d : ℕ) → 0 < d → n ≤ d → x ≤ℤ pos 0 → (rnd (x *ℤ pos n) (pos d) ≤ℤ pos 0) × (x ≤ℤ rnd (x *ℤ pos n) (pos d))
share_down x n d some l down =
    let low : rnd (x *ℤ pos n) (pos d) ≤ℤ rnd (pos 0) (pos d) = rnd_order (x *ℤ pos n) (pos 0) d some (times_down x n down) in
    let high : rnd (x *ℤ pos d) (pos d) ≤ℤ rnd (x *ℤ pos n) (pos d) = rnd_order (x *ℤ pos d) (x *ℤ pos n) d some (times_less x n d down l) in
    (subst (λ z. rnd (x *ℤ pos n) (pos d) ≤ℤ z) (rnd_zero d some) low, subst (λ z. z ≤ℤ rnd (x *ℤ pos n) (pos d)) (rnd_whole x d some) high)

pub share_part : (x : ℤ) (n d : ℕ) → 0 < d → n ≤ d → IsPartOf x (rnd (x *ℤ pos n) (pos d))
share_part x n d some l = record { up = share_up x n d some l; down = share_down x n d some l }

sign : (x : ℤ) → (pos 0 ≤ℤ x) ⊎ (x ≤ℤ pos 0)
sign (pos n) = inl (omega (arith, ints))
sign (negsuc n) = inr (omega (arith, ints))

pub part_fits : (x part : ℤ) → FitsSigned w64 x → IsPartOf x part → FitsSigned w64 part
part_fits (pos a) (pos b) f h = let m = h.up (omega (arith, ints)) in record { sfits = omega (arith, ints, f.sfits) }
part_fits (pos a) (negsuc b) f h = let m = h.up (omega (arith, ints)) in absurd (omega (arith, ints))
part_fits (negsuc a) (pos b) f h = let m = h.down (omega (arith, ints)) in record { sfits = omega (arith, ints) }
part_fits (negsuc a) (negsuc b) f h = let m = h.down (omega (arith, ints)) in record { sfits = omega (arith, ints, f.sfits) }

pub in_bounds : (z : ℤ) → FitsSigned w32 z → (negsuc 2147483647 ≤ℤ z) × (z ≤ℤ pos 2147483647)
in_bounds (pos n) f = (omega (arith, ints), omega (arith, ints, f.sfits))
in_bounds (negsuc n) f = (omega (arith, ints, f.sfits), omega (arith, ints))

of_bounds : (z : ℤ) → negsuc 2147483647 ≤ℤ z → z ≤ℤ pos 2147483647 → FitsSigned w32 z
of_bounds (pos n) l h = record { sfits = omega (arith, ints) }
of_bounds (negsuc n) l h = record { sfits = omega (arith, ints) }

pub along_fits : (from to part : ℤ) → FitsSigned w32 from → FitsSigned w32 to → IsPartOf (to -ℤ from) part → FitsSigned w32 (from +ℤ part)
along_fits from to part a b h =
    let f = in_bounds from a in
    let t = in_bounds to b in
    elim (sign (to -ℤ from)) [
      | inl k ↦ let m = h.up k in of_bounds (from +ℤ part) (omega (arith, ints)) (omega (arith, ints))
      | inr k ↦ let m = h.down k in of_bounds (from +ℤ part) (omega (arith, ints)) (omega (arith, ints))
    ]

pub abs_fits : (z : ℤ) → unsigned_abs z ≤ 2 ^ 100 → FitsSigned w128 z
abs_fits (pos n) h = record { sfits = omega (arith, ints) }
abs_fits (negsuc n) h = record { sfits = omega (arith, ints) }
