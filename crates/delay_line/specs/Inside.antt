-- What holds of each line.
use Rattle.std.specs.Prelude.{ℕ, ◌+◌, ◌*◌, ◌^◌, ◌<◌, ◌≤◌, ◌≡◌, min, ℤ, length, map, slice_index_or}
use Rattle.circular_buffer.specs.Buffer.{Buffer}
use Rattle.delay_line.specs.Lines.{Line, from_end}
use Rattle.delay_line.specs.declared.counts.Counts.TheInside as counts
use Rattle.delay_line.specs.declared.line.DelayLine.TheInside as line

-- the newest blocks, as many as the line knows of, have the latest count
pub record AreAlike (s : counts.Inside) : Type 0 where
  pub within : s.alike ≤ s.ring.capacity
  pub alike : (i : ℕ) → i < s.alike → i < length s.ring.items → from_end s.ring.items i 0 ≡ s.latest

abbrev pub line_of : line.Inside → Line
line_of s = record {
  capacity = s.capacity;
  block = s.block;
  blocks = s.blocks;
  counts = s.counts.items;
  channels = map (λ (ring : Buffer ℤ). ring.items) s.rings.items;
}

-- the rings have room for all that is to be kept
pub record IsSound (s : line.Inside) : Type 0 where
  pub block : (1 ≤ s.block) × (s.block ≤ 1024)
  pub capacity : s.capacity ≤ 2 ^ 22
  pub written : s.blocks * s.block ≤ 2 ^ 62 + 2 ^ 10
  pub counted : length s.counts.items ≡ min s.blocks s.counts.capacity
  pub small : s.counts.capacity ≤ 2 ^ 23
  pub counts_reach : s.capacity + s.block ≤ s.counts.capacity * s.block
  pub rings_reach : (c : ℕ) (ring : Buffer ℤ) → c < length s.rings.items → (slice_index_or s.rings.items c ring).capacity ≡ s.capacity + s.block
