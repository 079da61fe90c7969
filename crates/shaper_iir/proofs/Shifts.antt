-- A division by a power of two is a shift.
use Rattle.std.proofs.Common.{ℕ, zero, Bool, true, false, List, ◌≤◌, ℤ, pos, negsuc, ◌≡◌, ◌+◌, ◌*◌, ◌^◌, ◌+ℤ◌, ◌*ℤ◌, refl, add-one, FitsSigned, suc, ap, sym, ◌∙◌, arith}
use Rattle.std.specs.Int.{w64, int_div_euclid}
use Rattle.std.specs.Int.Signed.{shr_z, mag_shr}
use Rattle.std.proofs.Math.Nat.{pow-suc}
use Rattle.std.specs.Prelude.{if◌then◌else◌, neg_ℤ}
use Rattle.wa_base.specs.Numbers.{rnd, sat}
use Rattle.node_table.specs.Filters.{quotient}
use Rattle.node_table.specs.Frames.{item}
use Rattle.shaper_iir.specs.declared.scales.Scale.{Scale}
use Rattle.shaper_iir.specs.Scales.{upright, IsScale}

shift_is : (z : ℤ) (m : ℕ) → shr_z z m ≡ int_div_euclid z (pos m)
shift_is (pos a) m = refl
shift_is (negsuc a) m = refl

power_next : (bits : ℕ) → 2 ^ (bits + 1) ≡ 2 * 2 ^ bits
power_next bits = ap (λ n. 2 ^ n) (add-one bits) ∙ pow-suc 2 bits ∙ (let e : 2 ^ bits * 2 ≡ 2 * 2 ^ bits = omega arith in e)

pub rounded_by_shift : (sum numerator : ℤ) (divisor bits : ℕ) → numerator ≡ pos 2 *ℤ sum +ℤ pos divisor → divisor ≡ 2 ^ bits
    → shr_z numerator (2 ^ (bits + 1)) ≡ rnd sum (pos divisor)
rounded_by_shift sum numerator divisor bits is power =
    shift_is numerator (2 ^ (bits + 1))
    ∙ ap (λ m. int_div_euclid numerator (pos m)) (power_next bits ∙ ap (λ m. 2 * m) (sym power))
    ∙ ap (λ z. int_div_euclid z (pos (2 * divisor))) is

pub shifted_fits : (z : ℤ) (m : ℕ) → FitsSigned w64 z → FitsSigned w64 (shr_z z m)
shifted_fits z m h = record { sfits = let less = mag_shr z m in let within = h.sfits in omega arith }

-- where the divisor is negative, both are negated
divided : (negative : Bool) (sum : ℤ) (d : ℤ) (divisor : ℕ) → 1 ≤ divisor → d ≡ (if negative then neg_ℤ (pos divisor) else pos divisor)
    → sat (rnd (if negative then neg_ℤ sum else sum) (pos divisor)) ≡ quotient sum d
divided false sum d divisor low is = ap (quotient sum) (sym is)
divided true sum d zero low is = absurd (omega arith)
divided true sum d (suc k) low is = ap (quotient sum) (sym is)

pub quotient_is : (scale : Scale) (forward back : List ℤ) (sum : ℤ) → IsScale scale forward back → sat (rnd (upright scale sum) (pos scale.divisor)) ≡ quotient sum (item back 0)
quotient_is scale forward back sum is = divided scale.is_negative sum (item back 0) scale.divisor is.sound.low is.divisor
