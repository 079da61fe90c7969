-- The values of a quantum: a block for each end.
use Rattle.std.specs.Prelude.{ℕ, ℤ, pos, ◌+◌, ◌*◌, ◌≡◌, ◌≤◌, ◌<◌, List, [], map, slice_index_or, nat_lt, if◌then◌else◌, Bool, true, false, take, drop}
use Rattle.std.specs.List.{range_with_len}
use Rattle.wa_base.specs.Contexts.{IsQuantumSize}
use Rattle.wa_base.specs.declared.graph_names.End.{End}
use Rattle.meaning.specs.declared.world.World.{World}
use Rattle.meaning.specs.Counts.{Counts}
use Rattle.meaning.specs.Values.{Frame}
use Rattle.meaning.specs.Blocks.{Drafts, drafted}

-- What contracts see of a block: its number of lanes, the frames of a quantum, for how many values more there is room, and the values of each lane, one for each frame.
pub record BlockView : Type 0 where
  pub lanes : ℕ
  pub frames : ℕ
  pub spare : ℕ
  pub values : List (List ℤ)

-- for so many values there is room
abbrev pub room_of : BlockView → ℕ
room_of block = block.lanes * block.frames + block.spare

-- the values of a lane of a block of q frames that holds one for each lane, or one for each frame of each lane
abbrev pub lane_of : ℕ → Bool → List ℤ → ℕ → List ℤ
lane_of q true held lane = map (λ m. slice_index_or held lane (pos 0)) (range_with_len 0 q)
lane_of q false held lane = take q (drop (lane * q) held)

-- those of so many lanes
abbrev pub lanes_from : ℕ → Bool → ℕ → List ℤ → List (List ℤ)
lanes_from q steady lanes held = map (lane_of q steady held) (range_with_len 0 lanes)

-- what holds of every block
pub record IsBlock (number q cells : ℕ) : Type 0 where
  pub size : IsQuantumSize q
  pub high : number ≤ 32
  pub room : number * q ≤ cells

-- stands where there is no end
abbrev pub no_block : BlockView
no_block = record { lanes = 0; frames = 0; spare = 0; values = [] }

-- a lane at frame m
abbrev pub lane_at : List (List ℤ) → ℕ → ℕ → ℤ
lane_at lanes lane m = slice_index_or (slice_index_or lanes lane []) m (pos 0)

abbrev pub at : BlockView → ℕ → ℕ → ℤ
at block lane m = lane_at block.values lane m

-- frame m of a block, as a function from lane to value
abbrev pub shown : BlockView → ℕ → ℕ → ℤ
shown block m = λ lane. if nat_lt lane block.lanes then at block lane m else pos 0

-- ---- outputs and channels

-- The lanes of a block are the channels of the end's output 0, then those of output 1, and so on: here output o at frame m, where each output has so many channels.
abbrev pub carried : BlockView → ℕ → ℕ → ℕ → ℕ → ℤ
carried block channels o m = λ c. if nat_lt c channels then shown block m (o * channels + c) else pos 0

-- ---- ends

-- each node has two places: one for a writer, and one for the end that every node has
abbrev pub slot : End → ℕ
slot e = 2 * e.node.0 + (if e.writer then 0 else 1)

abbrev pub block_of : List BlockView → End → BlockView
block_of blocks e = slice_index_or blocks (slot e) no_block

-- the number of lanes at each place
abbrev pub lanes_of : List BlockView → List ℕ
lanes_of blocks = map (λ b. b.lanes) blocks

-- the frames of each
abbrev pub frames_of : List BlockView → List ℕ
frames_of blocks = map (λ b. b.frames) blocks

-- the number of channels of each end, by its place
abbrev pub counts_in : List ℕ → Counts
counts_in counts = λ e. slice_index_or counts (slot e) 1

-- what each end carries at each frame m: output o, channel c
abbrev pub drafts_of : List BlockView → List ℕ → Drafts
drafts_of blocks counts = λ m e o. carried (block_of blocks e) (counts_in counts e) o m

abbrev pub frame_of : World → List BlockView → List ℕ → ℕ → Frame
frame_of w blocks counts m = drafted w (counts_in counts) (drafts_of blocks counts m)

-- the lanes of an end are silent
abbrev pub IsSilent : List BlockView → End → Type 0
IsSilent blocks e = (lane m : ℕ) → lane < (block_of blocks e).lanes → m < (block_of blocks e).frames → at (block_of blocks e) lane m ≡ pos 0

-- The block of one end is written, and no other's. All keep their number of lanes, and their frames.
pub record Writes (old new : List BlockView) (e : End) : Type 0 where
  pub lanes : lanes_of new ≡ lanes_of old
  pub frames : frames_of new ≡ frames_of old
  pub others : (d : End) → (d ≡ e → ⊥) → block_of new d ≡ block_of old d
