-- A quotient that is rounded up.
use Rattle.std.proofs.Common.{ℕ, ◌≡◌, ◌+◌, ◌-◌, ◌*◌, ◌/◌, ◌%◌, ◌<◌, min, sym, ◌∙◌, ap, arith, ⊎_elim}
use Rattle.std.proofs.lemmas.Bool.{cases_lt}
use Rattle.std.proofs.lemmas.Nat.{div-add-mod', div-mul-add, mod_below}
use Rattle.std.proofs.Math.Nat.{add-mul, one-mul}

pub rounded_up : (a b : ℕ) → 0 < b → a / b + min 1 (a % b) ≡ (a + (b - 1)) / b
rounded_up a b some =
    let q = a / b in let r = a % b in
    let whole : q * b + r ≡ a = div-add-mod' a b in
    let rest : r < b = mod_below a b some in
    ⊎_elim
    (λ part.
    let up = add-mul q 1 b ∙ ap (λ n. q * b + n) (one-mul b) in
    let sum : (q + 1) * b + (r - 1) ≡ a + (b - 1) = omega arith in
    let more : q + min 1 r ≡ q + 1 = omega arith in
    more ∙ sym (div-mul-add (q + 1) b (r - 1) (omega arith)) ∙ ap (λ n. n / b) sum)
    (λ none.
    let sum : q * b + (b - 1) ≡ a + (b - 1) = omega arith in
    let same : q + min 1 r ≡ q = omega arith in
    same ∙ sym (div-mul-add q b (b - 1) (omega arith)) ∙ ap (λ n. n / b) sum)
    (cases_lt 0 r)
