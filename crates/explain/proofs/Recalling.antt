-- What equations read of lists of all that was heard.
use Rattle.std.proofs.Common.{ℕ, zero, suc, ℤ, ◌≡◌, ◌+◌, ◌-◌, ◌<◌, ◌≤◌, ◌+ℤ◌, ◌-ℤ◌, ◌*ℤ◌, length, drop, List, [], ◌∷◌, refl, sym, ◌∙◌, ap, ap₂, arith}
use Rattle.node_table.specs.Filters.{dot, quotient, filtered, filter_value}
use Rattle.node_table.specs.Frames.{item}
use Rattle.meaning.specs.Lists.{since}

-- a sum over coefficients reads as many items as there are coefficients
pub dot_reads : (cs : List ℤ) (u v : ℕ → ℤ) (birth n : ℕ) → ((g : ℕ) → birth ≤ g → g < birth + n → birth + n ≤ g + length cs → u g ≡ v g) → dot cs (since u birth n) ≡ dot cs (since v birth n)
dot_reads [] u v birth n same = refl
dot_reads (c ∷ cs) u v birth zero same = refl
dot_reads (c ∷ cs) u v birth (suc n) same =
    ap₂ (λ x y. c *ℤ x +ℤ y) (same (birth + n) (omega arith) (omega arith) (omega arith)) (dot_reads cs u v birth n (λ g low high near. same g low (omega arith) (omega arith)))

-- the outputs of a filter are what it makes of all that was heard up to each frame
pub outputs_since : (forward back : List ℤ) (u : ℕ → ℤ) (birth n : ℕ) → filtered forward back (since u birth n) ≡ since (λ g. filter_value forward back (since u birth (g + 1 - birth))) birth n
outputs_since forward back u birth zero = refl
outputs_since forward back u birth (suc n) =
    ap₂ (λ x xs. x ∷ xs)
    (let long : suc n ≡ birth + n + 1 - birth = omega arith in ap (λ m. filter_value forward back (since u birth m)) long)
    (outputs_since forward back u birth n)

length-drop_one : (xs : List ℤ) → length (drop 1 xs) ≡ length xs - 1
length-drop_one [] = refl
length-drop_one (x ∷ xs) = omega arith

-- A filter reads what was heard at the places of its feedforward coefficients, and what it put out at those of the feedback coefficients but the first.
pub filter_reads : (forward back : List ℤ) (u v : ℕ → ℤ) (birth n : ℕ)
    → ((g : ℕ) → birth ≤ g → g ≤ birth + n → birth + n < g + length forward → u g ≡ v g)
    → ((g : ℕ) → birth ≤ g → g < birth + n → birth + n < g + length back
    → filter_value forward back (since u birth (g + 1 - birth)) ≡ filter_value forward back (since v birth (g + 1 - birth)))
    → filter_value forward back (since u birth (suc n)) ≡ filter_value forward back (since v birth (suc n))
filter_reads forward back u v birth n heard put =
    ap₂ (λ x y. quotient (x -ℤ y) (item back 0))
    (dot_reads forward u v birth (suc n) (λ g low high near. heard g low (omega arith) (omega arith)))
    (ap (dot (drop 1 back)) (outputs_since forward back u birth n)
    ∙ dot_reads (drop 1 back) _ _ birth n (λ g low high near. put g low high (let e = length-drop_one back in omega (arith, e)))
    ∙ sym (ap (dot (drop 1 back)) (outputs_since forward back v birth n)))
