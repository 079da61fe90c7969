-- What is at hand while a node is rendered.
use Rattle.std.specs.Prelude.{ℕ, ◌≡◌, ◌*◌, List, length}
use Rattle.wa_base.specs.Contexts.{IsQuantumSize}
use Rattle.quantum_blocks.specs.Blocks.{BlockView, room_of}

-- what contracts see of a bench: what an input carries, the levels of a parameter, and what several inputs carry, one lane each
pub record BenchView : Type 0 where
  -- the frames of a quantum
  pub frames : ℕ
  pub heard : BlockView
  pub levels : BlockView
  pub merged : BlockView
  -- for so many values of a widened input there is room
  pub wide : ℕ
  -- and for so many of what a causal node or a delay gives
  pub given : ℕ
  -- how many frames a delay lasts at each frame of the quantum
  pub spans : List ℕ
  -- the frames that sums are made for
  pub summed : ℕ

-- there is room for every input, and for the one channel of a parameter, and there is a delay for each frame
pub record IsBench (b : BenchView) : Type 0 where
  pub size : IsQuantumSize b.frames
  pub heard : room_of b.heard ≡ 32 * b.frames
  pub heard_frames : b.heard.frames ≡ b.frames
  pub levels : room_of b.levels ≡ b.frames
  pub levels_frames : b.levels.frames ≡ b.frames
  pub mono : b.levels.lanes ≡ 1
  pub merged : room_of b.merged ≡ 32 * b.frames
  pub merged_frames : b.merged.frames ≡ b.frames
  pub wide : b.wide ≡ 32 * b.frames
  pub given : b.given ≡ 32 * b.frames
  pub spans : length b.spans ≡ b.frames
  pub summed : b.summed ≡ b.frames
