-- What a delay line keeps of what its writer wrote.
use Rattle.std.specs.Prelude.{ℕ, ◌+◌, ◌-◌, ◌*◌, ◌/◌, ◌<◌, ◌≤◌, ◌≡◌, nat_lt, if◌then◌else◌, ℤ, pos, List, [], length, slice_index_or}
use Rattle.mix_rules.specs.Blocks.{sample}
use Rattle.delay_line.specs.Delays.{Writer}

-- The longest delay and the length of a block, in frames; how many blocks were written; and what is kept of them, the oldest first: with how many channels each block was written, and the frames of each channel that there is room for.
pub record Line : Type 0 where
  pub capacity : ℕ
  pub block : ℕ
  pub blocks : ℕ
  pub counts : List ℕ
  pub channels : List (List ℤ)

-- how many frames were written
abbrev pub written : Line → ℕ
written line = line.blocks * line.block

-- a line keeps the last frames that were written, as many as the longest delay and a block have
abbrev pub IsKept : Line → ℕ → Type 0
IsKept line g = (g < written line) × (written line ≤ g + (line.capacity + line.block))

-- the item of a list that so many others follow, and something else where there is none
abbrev pub from_end : {X : Type 0} → List X → ℕ → X → X
from_end items n other = if nat_lt n (length items) then slice_index_or items (length items - n - 1) other else other

-- the number of channels of block k
abbrev pub count_at : Line → ℕ → ℕ
count_at line k = from_end line.counts (line.blocks - k - 1) 0

-- channel c of frame g
abbrev pub frame_at : Line → ℕ → ℕ → ℤ
frame_at line g c = from_end (slice_index_or line.channels c []) (written line - g - 1) (pos 0)

-- What a line keeps is what this writer wrote. The line stands for each writer of which this holds.
pub record Keeps (line : Line) (writer : Writer) : Type 0 where
  pub counts : (g : ℕ) → IsKept line g → count_at line (g / line.block) ≡ writer.counts (g / line.block)
  pub frames : (g c : ℕ) → IsKept line g → c < writer.counts (g / line.block) → frame_at line g c ≡ writer.frames g c

-- the block that this writer writes next has so many channels, and they hold these samples
pub record IsNext (line : Line) (writer : Writer) (channels : ℕ) (block : List ℤ) : Type 0 where
  pub count : writer.counts line.blocks ≡ channels
  pub frames : (c k : ℕ) → c < channels → k < line.block → writer.frames (written line + k) c ≡ sample line.block block c k
