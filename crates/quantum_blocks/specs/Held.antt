-- How a block holds its values.
use Rattle.std.specs.Prelude.{ℕ, ℤ, pos, ◌*◌, ◌≡◌, ◌<◌, List, length, slice_index_or}
use Rattle.mix_rules.specs.Blocks.{sample, frame_at}
use Rattle.quantum_blocks.specs.declared.held.Held.{Held}
use Rattle.quantum_blocks.specs.declared.held.Held.TheVariants.{Steady, Moving}
use Rattle.quantum_blocks.specs.Blocks.{BlockView, at, shown}

-- the values of the lanes of a block, one lane after another
abbrev pub AreLanes : BlockView → List ℤ → Type 0
AreLanes b values = (lane m : ℕ) → lane < b.lanes → m < b.frames → at b lane m ≡ sample b.frames values lane m

-- one value for each lane, which it has at all frames; or one for each frame of each lane
abbrev pub IsHeld : BlockView → Held → Type 0
IsHeld b (Steady v) = (length v.now ≡ b.lanes) × ((lane m : ℕ) → lane < b.lanes → m < b.frames → at b lane m ≡ slice_index_or v.now lane (pos 0))
IsHeld b (Moving v) = (length v.now ≡ b.lanes * b.frames) × AreLanes b v.now

-- the same of one output alone, whose q frames are given, with so many channels
abbrev pub IsCarried : ℕ → (ℕ → ℕ → ℤ) → ℕ → Held → Type 0
IsCarried q frames channels (Steady v) = (length v.now ≡ channels) × ((m : ℕ) → m < q → (λ c. slice_index_or v.now c (pos 0)) ≡ frames m)
IsCarried q frames channels (Moving v) = (length v.now ≡ channels * q) × ((m : ℕ) → m < q → frame_at q v.now m ≡ frames m)

-- the lanes of a block, one after another, with silent lanes behind them up to so many
pub record IsWidened (b : BlockView) (lanes : ℕ) (wide : List ℤ) : Type 0 where
  pub length : length wide ≡ lanes * b.frames
  pub values : (c m : ℕ) → c < lanes → m < b.frames → sample b.frames wide c m ≡ shown b m c

-- the value of a channel at frame m
abbrev pub held_at : ℕ → Held → ℕ → ℕ → ℤ
held_at q (Steady v) c m = slice_index_or v.now c (pos 0)
held_at q (Moving v) c m = sample q v.now c m

-- it has so many channels
abbrev pub HasChannels : ℕ → ℕ → Held → Type 0
HasChannels q n (Steady v) = length v.now ≡ n
HasChannels q n (Moving v) = length v.now ≡ n * q
