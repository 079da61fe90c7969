-- Which block a frame belongs to, counted from the newest.
use Rattle.std.proofs.Common.{ℕ, ◌≡◌, ◌+◌, ◌-◌, ◌*◌, ◌/◌, ◌<◌, ◌≤◌, ap, ◌∙◌, arith, inl, inr}
use Rattle.std.proofs.Math.Nat.{lt-div-mul-add, div-mul-le_self}
use Rattle.std.proofs.lemmas.Nat.{div-mul-add, mul-le}
use Rattle.delay_line.proofs.Ends.{order}

-- a frame of the first so many blocks is in one of them
pub block_below : (g blocks block : ℕ) → g < blocks * block → g / block < blocks
block_below g blocks block below = elim (order blocks (g / block)) [
  | inl past ↦
      let most = div-mul-le_self g block in
      let over : blocks * block ≤ g / block * block = mul-le _ _ _ _ past (omega arith) in
      absurd (omega arith)
  | inr there ↦ there
]

-- so many frames follow it, and so many blocks its block
pub block_back : (g blocks block : ℕ) → 0 < block → g < blocks * block → (blocks * block - g - 1) / block ≡ blocks - g / block - 1
block_back g blocks block some below =
    let q = g / block in
    let there = block_below g blocks block below in
    let low = div-mul-le_self g block in
    let high = lt-div-mul-add {a = g} some in
    let left = blocks - q - 1 in
    let parts : left + q + 1 ≡ blocks = omega (arith, there) in
    let all : (left + q + 1) * block ≡ blocks * block = ap (λ k. k * block) parts in
    let rest : q * block + block - g - 1 < block = omega (arith, low, high) in
    let sum : blocks * block - g - 1 ≡ left * block + (q * block + block - g - 1) = omega (arith, all, low, high) in
    ap (λ k. k / block) sum ∙ div-mul-add left block (q * block + block - g - 1) rest

-- fewer than some multiple
pub below_times : (a b n : ℕ) → a * n < b * n → a < b
below_times a b n less = elim (order b a) [
  | inl past ↦ let over : b * n ≤ a * n = mul-le _ _ _ _ past (omega arith) in absurd (omega arith)
  | inr there ↦ there
]

-- a number whose quotient is among some is between their multiples
pub within_blocks : (back block from end : ℕ) → 0 < block → from ≤ back / block → back / block < end → (from * block ≤ back) × (back < end * block)
within_blocks back block from end some low high =
    let least = div-mul-le_self back block in
    let most = lt-div-mul-add {a = back} some in
    let first : from * block ≤ back / block * block = mul-le _ _ _ _ low (omega arith) in
    let last : (back / block + 1) * block ≤ end * block = mul-le _ _ _ _ (omega (arith, high)) (omega arith) in
    (omega (arith, least, first), omega (arith, most, last))
