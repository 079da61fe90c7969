-- Sums of products over the newest items, and what silence gives.
use Rattle.std.proofs.Common.{ℕ, ℤ, pos, negsuc, zero, suc, ◌≡◌, ◌+◌, ◌*◌, ◌/◌, ◌<◌, ◌+ℤ◌, ◌-ℤ◌, ◌*ℤ◌, List, [], ◌∷◌, length, drop, ap, ap₂, sym, refl, ◌∙◌, arith, rules, true, false, Bool, ◌&&◌}
use Rattle.std.specs.Prelude.{min}
use Rattle.std.proofs.lemmas.Nat.{div-mul-add}
use Rattle.std.proofs.lemmas.Int.{ints}
use Rattle.node_table.specs.Frames.{item}
use Rattle.node_table.specs.Filters.{dot, quotient, next_output, filtered, is_zero, all_zero, SilenceLaw}

times_nothing : (c : ℤ) → c *ℤ pos 0 ≡ pos 0
times_nothing (pos n) = omega (arith, ints)
times_nothing (negsuc n) = omega (arith, ints)

dot_nothing : (cs : List ℤ) → dot cs [] ≡ pos 0
dot_nothing [] = refl
dot_nothing (c ∷ cs) = refl

-- a sum looks at the items by their places alone
pub dot_same : (cs xs ys : List ℤ) → ((i : ℕ) → i < length cs → item xs i ≡ item ys i) → dot cs xs ≡ dot cs ys
dot_same [] xs ys same = refl
dot_same (c ∷ cs) [] [] same = refl
dot_same (c ∷ cs) [] (y ∷ ys) same =
    let first : pos 0 ≡ y = same 0 (omega arith) in
    let rest : dot cs [] ≡ dot cs ys = dot_same cs [] ys (λ i l. same (suc i) (omega arith)) in
    let none = dot_nothing cs in
    let product : c *ℤ y ≡ pos 0 = ap (λ v. c *ℤ v) (sym first) ∙ times_nothing c in
    omega (arith, ints)
dot_same (c ∷ cs) (x ∷ xs) [] same =
    let first : x ≡ pos 0 = same 0 (omega arith) in
    let rest : dot cs xs ≡ dot cs [] = dot_same cs xs [] (λ i l. same (suc i) (omega arith)) in
    let none = dot_nothing cs in
    let product : c *ℤ x ≡ pos 0 = ap (λ v. c *ℤ v) first ∙ times_nothing c in
    omega (arith, ints)
dot_same (c ∷ cs) (x ∷ xs) (y ∷ ys) same =
    let first : x ≡ y = same 0 (omega arith) in
    ap₂ (λ v rest. c *ℤ v +ℤ rest) first (dot_same cs xs ys (λ i l. same (suc i) (omega arith)))

pub dot_zero : (cs xs : List ℤ) → ((i : ℕ) → i < length cs → item xs i ≡ pos 0) → dot cs xs ≡ pos 0
dot_zero cs xs zeros = dot_same cs xs [] zeros ∙ dot_nothing cs

quotient_of_nothing : (d : ℕ) → (0 + d) / (2 * d) ≡ 0
quotient_of_nothing zero = refl
quotient_of_nothing (suc d) =
    let none : 0 + suc d ≡ 0 * (2 * suc d) + suc d = omega arith in
    ap (λ n. n / (2 * suc d)) none ∙ div-mul-add 0 (2 * suc d) (suc d) (omega arith)

pub quotient_zero : (d : ℤ) → quotient (pos 0) d ≡ pos 0
quotient_zero (pos d) = ap (λ q. pos (min q 2147483647)) (quotient_of_nothing d)
quotient_zero (negsuc d) = ap (λ q. pos (min q 2147483647)) (quotient_of_nothing (suc d))

-- after silence in so many inputs and outputs as the coefficients look at, an output of 0 follows
pub next_is_zero : (forward back inputs outputs : List ℤ)
    → ((i : ℕ) → i < length forward → item inputs i ≡ pos 0) → ((i : ℕ) → i < length (drop 1 back) → item outputs i ≡ pos 0)
    → next_output forward back inputs outputs ≡ pos 0
next_is_zero forward back inputs outputs ins outs =
    let f : dot forward inputs ≡ pos 0 = dot_zero forward inputs ins in
    let b : dot (drop 1 back) outputs ≡ pos 0 = dot_zero (drop 1 back) outputs outs in
    ap₂ (λ x y. quotient (x -ℤ y) (item back 0)) f b ∙ quotient_zero (item back 0)

zero_is : (c : ℤ) → is_zero c ≡ true → c ≡ pos 0
zero_is (pos zero) h = refl
zero_is (pos (suc n)) h = absurd (search rules)
zero_is (negsuc n) h = absurd (search rules)

both_true : (a b : Bool) → (a && b) ≡ true → (a ≡ true) × (b ≡ true)
both_true true b h = (refl, h)
both_true false b h = absurd (search rules)

pub zeros_at : (xs : List ℤ) → all_zero xs ≡ true → (i : ℕ) → item xs i ≡ pos 0
zeros_at [] h i = refl
zeros_at (x ∷ xs) h zero = zero_is x (both_true (is_zero x) (all_zero xs) h).0
zeros_at (x ∷ xs) h (suc i) = zeros_at xs (both_true (is_zero x) (all_zero xs) h).1 i

silent_outputs : (forward back frames : List ℤ) → all_zero frames ≡ true → (i : ℕ) → item (filtered forward back frames) i ≡ pos 0
silent_outputs forward back [] h i = refl
silent_outputs forward back (x ∷ xs) h zero =
    next_is_zero forward back (x ∷ xs) (filtered forward back xs) (λ i l. zeros_at (x ∷ xs) h i)
    (λ i l. silent_outputs forward back xs (both_true (is_zero x) (all_zero xs) h).1 i)
silent_outputs forward back (x ∷ xs) h (suc i) = silent_outputs forward back xs (both_true (is_zero x) (all_zero xs) h).1 i

pub silence : SilenceLaw
silence forward back frames h = silent_outputs forward back frames h 0
