-- What a line keeps once a block is written or once it has grown.
use Rattle.std.proofs.Common.{ℕ, ℤ, pos, ◌≡◌, ◌+◌, ◌-◌, ◌*◌, ◌/◌, ◌<◌, ◌≤◌, List, [], get_or, ap, sym, subst, ◌∙◌, arith, inl, inr}
use Rattle.std.proofs.Math.Nat.{lt-div-mul-add, div-mul-le_self}
use Rattle.std.proofs.lemmas.Nat.{div-mul-add}
use Rattle.mix_rules.specs.Blocks.{sample}
use Rattle.delay_line.specs.Delays.{Writer}
use Rattle.delay_line.specs.Lines.{Line, from_end, count_at, IsKept, Keeps, IsNext}
use Rattle.delay_line.proofs.Ends.{order}
use Rattle.delay_line.proofs.Places.{block_below}

-- the line with other counts and frames
abbrev pub line_with : ℕ → ℕ → ℕ → List ℕ → List (List ℤ) → Line
line_with capacity block blocks counts channels = record { capacity = capacity; block = block; blocks = blocks; counts = counts; channels = channels }

abbrev pub channel_of : List (List ℤ) → ℕ → List ℤ
channel_of channels c = get_or channels c []

-- one more block of so many channels with these samples came to what was kept
pub record IsWritten (capacity block : ℕ) (counts counts' : List ℕ) (channels channels' : List (List ℤ)) (count : ℕ) (samples : List ℤ) : Type 0 where
  pub latest : from_end counts' 0 0 ≡ count
  pub earlier : (i : ℕ) → (i + 1) * block < capacity + block → from_end counts' (i + 1) 0 ≡ from_end counts i 0
  pub newest : (c k : ℕ) → c < count → k < block → from_end (channel_of channels' c) (block - k - 1) (pos 0) ≡ sample block samples c k
  pub older : (c i : ℕ) → block + i < capacity + block → from_end (channel_of channels' c) (block + i) (pos 0) ≡ from_end (channel_of channels c) i (pos 0)

module _ (capacity block blocks : ℕ) (counts counts' : List ℕ) (channels channels' : List (List ℤ)) where
  abbrev before : Line
  before = line_with capacity block blocks counts channels

  abbrev after : Line
  after = line_with capacity block (blocks + 1) counts' channels'

  kept_before : (g : ℕ) → IsKept after g → g < blocks * block → IsKept before g
  kept_before g kept old = (old, omega (arith, kept.1))

  count_of_new : (g : ℕ) → blocks * block ≤ g → g < (blocks + 1) * block → g / block ≡ blocks
  count_of_new g low high =
      let rest : g - blocks * block < block = omega (arith, low, high) in
      let sum : g ≡ blocks * block + (g - blocks * block) = omega (arith, low) in
      ap (λ k. k / block) sum ∙ div-mul-add blocks block (g - blocks * block) rest

  pub keeps_written : (writer : Writer) (count : ℕ) (samples : List ℤ) → 0 < block → IsWritten capacity block counts counts' channels channels' count samples
      → Keeps before writer → IsNext before writer count samples → Keeps after writer
  keeps_written writer count samples some new keeps next = record {
    counts = λ g kept. elim (order (blocks * block) g) [
      | inl fresh ↦
          let here = count_of_new g fresh kept.0 in
          let none : blocks + 1 - blocks - 1 ≡ 0 = omega arith in
          ap (count_at after) here ∙ ap (λ i. from_end counts' i 0) none ∙ new.latest ∙ sym next.count ∙ ap writer.counts (sym here)
      | inr old ↦
          let q = g / block in
          let there = block_below g blocks block old in
          let high = lt-div-mul-add {a = g} some in
          let low = div-mul-le_self g block in
          let i = blocks - q - 1 in
          let place : blocks + 1 - q - 1 ≡ i + 1 = omega (arith, there) in
          let parts : i + 1 + q ≡ blocks = omega (arith, there) in
          let all : (i + 1 + q) * block ≡ blocks * block = ap (λ k. k * block) parts in
          let near : (i + 1) * block < capacity + block = omega (arith, all, low, high, kept.1) in
          ap (λ k. from_end counts' k 0) place ∙ new.earlier i near ∙ keeps.counts g (kept_before g kept old)
    ];
    frames = λ g c kept within. elim (order (blocks * block) g) [
      | inl fresh ↦
          let here = count_of_new g fresh kept.0 in
          let c_in : c < count = subst (λ n. c < n) (ap writer.counts here ∙ next.count) within in
          let k = g - blocks * block in
          let few : k < block = omega (arith, fresh, kept.0) in
          let place : (blocks + 1) * block - g - 1 ≡ block - k - 1 = omega (arith, fresh) in
          let back : blocks * block + k ≡ g = omega (arith, fresh) in
          ap (λ i. from_end (channel_of channels' c) i (pos 0)) place ∙ new.newest c k c_in few ∙ sym (next.frames c k c_in few) ∙ ap (λ f. writer.frames f c) back
      | inr old ↦
          let i = blocks * block - g - 1 in
          let place : (blocks + 1) * block - g - 1 ≡ block + i = omega (arith, old) in
          let near : block + i < capacity + block = omega (arith, old, kept.1) in
          ap (λ j. from_end (channel_of channels' c) j (pos 0)) place ∙ new.older c i near ∙ keeps.frames g c (kept_before g kept old) within
    ];
  }

-- a line with channels that have nothing yet
pub keeps_grown : (capacity block blocks : ℕ) (counts : List ℕ) (channels channels' : List (List ℤ)) → ((c : ℕ) → channel_of channels' c ≡ channel_of channels c)
    → (writer : Writer) → Keeps (line_with capacity block blocks counts channels) writer → Keeps (line_with capacity block blocks counts channels') writer
keeps_grown capacity block blocks counts channels channels' same writer keeps = record {
  counts = keeps.counts;
  frames = λ g c kept within. ap (λ items. from_end items (blocks * block - g - 1) (pos 0)) (same c) ∙ keeps.frames g c kept within;
}
