-- What coefficients that are not refused have.
use Rattle.std.proofs.Common.{◌≡◌, ◌≤◌, ℕ, ℤ, List, length, Bool, true, false, Some, None, refl}
use Rattle.std.specs.Prelude.{nat_le, ◌&&◌, not, if◌then◌else◌}
use Rattle.std.proofs.lemmas.Bool.{leb-true}
use Rattle.wa_base.specs.declared.exceptions.Exc.{Exc}
use Rattle.node_table.specs.Filters.{IsFilter, filter_refusal, is_order, all_zero, is_zero}
use Rattle.node_table.specs.Frames.{item}

-- where no test refuses, each has passed
passed : (x y z : Exc) (a b q r : Bool) → (if not (a && b) then Some x else if q then Some y else if r then Some z else None) ≡ None
    → (a ≡ true) × (b ≡ true) × (r ≡ false)
passed x y z true true true r h = cc
passed x y z true true false true h = cc
passed x y z true true false false h = (refl, refl, refl)
passed x y z true false q r h = cc
passed x y z false b q r h = cc

both : (a b : Bool) → (a && b) ≡ true → (a ≡ true) × (b ≡ true)
both true true h = (refl, refl)
both true false h = cc
both false b h = cc

bounded : (n : ℕ) → (nat_le 1 n && nat_le n 20) ≡ true → (1 ≤ n) × (n ≤ 20)
bounded n h = let k = both (nat_le 1 n) (nat_le n 20) h in (leb-true 1 n k.0, leb-true n 20 k.1)

pub accepted : (forward back : List ℤ) → filter_refusal forward back ≡ None → IsFilter forward back
accepted forward back h =
    let k = passed _ _ _ (is_order forward) (is_order back) (all_zero forward) (is_zero (item back 0)) h in
    let f = bounded (length forward) k.0 in
    let b = bounded (length back) k.1 in
    record { forward_some = f.0; forward_most = f.1; back_some = b.0; back_most = b.1; divisor = k.2 }
