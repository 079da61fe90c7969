-- The value between two points lies between their values.
use Rattle.std.proofs.Common.{ℕ, ℤ, pos, negsuc, suc, ◌≤◌, ◌^◌, ◌≤ℤ◌, ◌+ℤ◌, ◌-ℤ◌, ◌*ℤ◌, arith, FitsSigned, ◌⊎◌, inl, inr}
use Rattle.std.specs.Int.{w32, int_div_euclid}
use Rattle.std.proofs.lemmas.Int.{ints}
use Rattle.std.proofs.lemmas.Nat.{mul-le}
use Rattle.wa_base.specs.Numbers.{rnd, IsFix}
use Rattle.node_table.specs.Curves.{between}

-- a quotient that is rounded down, and what is left
quotient_part : (z : ℤ) → ((pos 67108864 *ℤ int_div_euclid z (pos 67108864)) ≤ℤ z) × (z ≤ℤ (pos 67108864 *ℤ int_div_euclid z (pos 67108864) +ℤ pos 67108863))
quotient_part (pos a) = (omega (arith, ints), omega (arith, ints))
quotient_part (negsuc a) = (omega (arith, ints), omega (arith, ints))

-- a part lies between nothing and the whole, whether the whole goes up or down
record IsPartOf (whole part : ℤ) : Type 0 where
  up : (pos 0 ≤ℤ whole) → (pos 0 ≤ℤ part) × (part ≤ℤ whole)
  down : (whole ≤ℤ pos 0) → (part ≤ℤ pos 0) × (whole ≤ℤ part)

rounded_up : (x w : ℤ) → pos 0 ≤ℤ w → w ≤ℤ (pos 33554432 *ℤ x) → (pos 0 ≤ℤ rnd w (pos 33554432)) × (rnd w (pos 33554432) ≤ℤ x)
rounded_up x w low high = let q = quotient_part (pos 2 *ℤ w +ℤ pos 33554432) in (omega (arith, ints, q.1), omega (arith, ints, q.0))

rounded_down : (x w : ℤ) → w ≤ℤ pos 0 → (pos 33554432 *ℤ x) ≤ℤ w → (rnd w (pos 33554432) ≤ℤ pos 0) × (x ≤ℤ rnd w (pos 33554432))
rounded_down x w high low = let q = quotient_part (pos 2 *ℤ w +ℤ pos 33554432) in (omega (arith, ints, q.0), omega (arith, ints, q.1))

share_part : (x : ℤ) (p : ℕ) → p ≤ 2 ^ 25 → IsPartOf x (rnd (x *ℤ pos p) (pos 33554432))
share_part (pos a) p l = let k = mul-le a p a 33554432 (omega arith) l in
    record {
      up = λ up. rounded_up (pos a) (pos a *ℤ pos p) (omega (arith, ints)) (omega (arith, ints, k));
      down = λ down. rounded_down (pos a) (pos a *ℤ pos p) (omega (arith, ints, k, down)) (omega (arith, ints, down));
    }
share_part (negsuc a) p l = let k = mul-le (suc a) p (suc a) 33554432 (omega arith) l in
    record {
      up = λ up. absurd (omega (arith, ints));
      down = λ down. rounded_down (negsuc a) (negsuc a *ℤ pos p) (omega (arith, ints)) (omega (arith, ints, k));
    }

sign : (x : ℤ) → (pos 0 ≤ℤ x) ⊎ (x ≤ℤ pos 0)
sign (pos n) = inl (omega (arith, ints))
sign (negsuc n) = inr (omega (arith, ints))

in_bounds : (z : ℤ) → FitsSigned w32 z → (negsuc 2147483647 ≤ℤ z) × (z ≤ℤ pos 2147483647)
in_bounds (pos n) f = (omega (arith, ints), omega (arith, ints, f.sfits))
in_bounds (negsuc n) f = (omega (arith, ints, f.sfits), omega (arith, ints))

of_bounds : (z : ℤ) → negsuc 2147483647 ≤ℤ z → z ≤ℤ pos 2147483647 → FitsSigned w32 z
of_bounds (pos n) l h = record { sfits = omega (arith, ints) }
of_bounds (negsuc n) l h = record { sfits = omega (arith, ints) }

pub between_fix : (from to : ℤ) (p : ℕ) → IsFix from → IsFix to → p ≤ 2 ^ 25 → IsFix (between from to p (2 ^ 25))
between_fix from to p f t l =
    let part = rnd ((to -ℤ from) *ℤ pos p) (pos 33554432) in
    let is = share_part (to -ℤ from) p l in
    elim (sign (to -ℤ from)) [
      | inl up ↦ let m = is.up up in (omega (arith, ints), omega (arith, ints))
      | inr down ↦ let m = is.down down in (omega (arith, ints), omega (arith, ints))
    ]

pub between_fits : (from to : ℤ) (p : ℕ) → FitsSigned w32 from → FitsSigned w32 to → p ≤ 2 ^ 25 → FitsSigned w32 (between from to p (2 ^ 25))
between_fits from to p from_fits to_fits l =
    let value = between_fix from to p (in_bounds from from_fits) (in_bounds to to_fits) l in
    of_bounds (between from to p (2 ^ 25)) value.0 value.1
