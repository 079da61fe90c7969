-- The frames heard since a birth, and a block more.
use Rattle.std.proofs.Common.{ℕ, zero, suc, ℤ, ◌≡◌, ◌+◌, ◌-◌, ◌<◌, ◌≤◌, List, ◌∷◌, sym, ◌∙◌, ap, ap₂, arith}
use Rattle.node_table.specs.Frames.{item, heard}
use Rattle.meaning.specs.Lists.{since}

heard_since : (at : ℕ → ℤ) (x : List ℤ) (start birth k n : ℕ) → ((i : ℕ) → i < n → at (birth + (k + i)) ≡ item x (start + i)) → heard x start n (since at birth k) ≡ since at birth (k + n)
heard_since at x start birth k zero each = ap (since at birth) (let e : k ≡ k + 0 = omega arith in e)
heard_since at x start birth k (suc n) each =
    ap₂ (λ y ys. y ∷ ys) (sym (each n (omega arith))) (heard_since at x start birth k n (λ i l. each i (omega arith)))
    ∙ ap (since at birth) (let e : suc (k + n) ≡ k + suc n = omega arith in e)

-- what was heard from a birth on, and a block from a time on
pub heard_from : (at : ℕ → ℤ) (x : List ℤ) (start birth time n : ℕ) → birth ≤ time → ((i : ℕ) → i < n → at (time + i) ≡ item x (start + i))
    → heard x start n (since at birth (time - birth)) ≡ since at birth (time + n - birth)
heard_from at x start birth time n lived each =
    heard_since at x start birth (time - birth) n (λ i l. ap at (let e : birth + (time - birth + i) ≡ time + i = omega arith in e) ∙ each i l)
    ∙ ap (since at birth) (let e : time - birth + n ≡ time + n - birth = omega arith in e)
