-- Rows of equally many places, one behind another: place m of row c is place c * q + m of all.
use Rattle.std.proofs.Common.{ℕ, suc, ◌≡◌, ◌+◌, ◌*◌, ◌/◌, ◌<◌, ◌≤◌, sym, ◌∙◌, ap, arith, mul_comm}
use Rattle.std.proofs.Math.Nat.{lt-div-mul-add, div-mul-le_self}
use Rattle.std.proofs.lemmas.Nat.{div-mul-add, mul-le}

-- fewer rows have no more places
pub rows_up : (q a b : ℕ) → a ≤ b → a * q ≤ b * q
rows_up q a b few = mul-le _ _ _ _ few (omega arith)

-- a row lies within the rows
pub row_in : (q c n : ℕ) → c < n → c * q + q ≤ n * q
row_in q c n there = let up = rows_up q (suc c) n (omega arith) in omega (arith, up)

-- and so does each of its places
pub place_in : (q c n m : ℕ) → c < n → m < q → c * q + m < n * q
place_in q c n m there within = let row = row_in q c n there in omega (arith, row)

-- the row of a place
pub row_of : (q c m : ℕ) → m < q → (c * q + m) / q ≡ c
row_of q c m within = div-mul-add c q m within

-- a place belongs to one row
pub same_row : (q c d m k : ℕ) → m < q → k < q → c * q + m ≡ d * q + k → c ≡ d
same_row q c d m k within within' same = sym (row_of q c m within) ∙ ap (λ p. p / q) same ∙ row_of q d k within'

pub same_place : (q c d m k : ℕ) → m < q → k < q → c * q + m ≡ d * q + k → m ≡ k
same_place q c d m k within within' same =
    let rows : c * q ≡ d * q = ap (λ r. r * q) (same_row q c d m k within within' same) in
    omega (arith, rows, same)

-- ---- the same of quanta: frame m of quantum j is frame q * j + m

-- the quantum of a frame
pub quantum_at : (q j m : ℕ) → m < q → (q * j + m) / q ≡ j
quantum_at q j m within = ap (λ p. (p + m) / q) (mul_comm q j) ∙ row_of q j m within

-- that of the first frame of a quantum
pub quantum_from : (q j : ℕ) → 0 < q → (q * j) / q ≡ j
quantum_from q j some = ap (λ p. p / q) (omega arith) ∙ quantum_at q j 0 some

-- the quantum after it begins so many frames later
pub next_quantum : (q j : ℕ) → q * (j + 1) ≡ q * j + q
next_quantum q j = mul_comm q (j + 1) ∙ (let back = mul_comm j q in omega (arith, back))

-- of two quanta the earlier one ends where the later begins, or before
pub quanta_apart : (q a b : ℕ) → a < b → q * a + q ≤ q * b
quanta_apart q a b before =
    let row = row_in q a b before in
    let here = mul_comm q a in
    let there = mul_comm q b in
    omega (arith, row, here, there)

-- a frame lies in the quantum that begins at the multiple before it
pub quantum_low : (q f : ℕ) → q * (f / q) ≤ f
quantum_low q f = let low = div-mul-le_self f q in let turned = mul_comm q (f / q) in omega (arith, low, turned)

pub quantum_high : (q f : ℕ) → 0 < q → f < q * (f / q) + q
quantum_high q f some = let high = lt-div-mul-add {a = f} some in let turned = mul_comm q (f / q) in omega (arith, high, turned)
