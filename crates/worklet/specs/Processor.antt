-- The state of a processor.
use Rattle.std.specs.Prelude.{ℕ, zero, suc, ◌≡◌, ℤ, pos, List, slice_index_or}
use Rattle.node_table.specs.Frames.{heard}
use Rattle.node_table.specs.declared.code.Instr.{Instr}
use Rattle.node_table.specs.Machine.{cells_after, played}

-- the code, the cells of each channel that there is room for, and those of all channels past them
pub record ProcessorView : Type 0 where
  pub code : List Instr
  pub channels : List (List ℤ)
  pub others : List ℤ

-- the cells of a channel
abbrev pub cells_of : ProcessorView → ℕ → List ℤ
cells_of processor channel = slice_index_or processor.channels channel processor.others

-- the processor has heard these frames of this channel
abbrev pub ProcessorStands : ProcessorView → ℕ → List ℤ → Type 0
ProcessorStands processor channel frames = cells_of processor channel ≡ cells_after processor.code frames

-- cells that have heard so many more items of a block, from a place on
abbrev pub HasHeard : (code : List Instr) (old new block : List ℤ) (start n : ℕ) → Type 0
HasHeard code old new block start n = (frames : List ℤ) → old ≡ cells_after code frames → new ≡ cells_after code (heard block start n frames)

-- cells after so many more frames, each of them 0
abbrev pub after_silence : List Instr → List ℤ → (n : ℕ) → List ℤ
after_silence code cells zero = cells
after_silence code cells (suc n) = (played code (after_silence code cells n) (pos 0)).cells
