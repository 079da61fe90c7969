-- A worked delay, as the definitions compute it: blocks of 4 frames, of which the first is mono, the second stereo and the third mono.
use Rattle.std.proofs.Common.{ℕ, ℤ, pos, sym, ◌≡◌, ◌+◌, ◌*◌, List, [], ◌∷◌, refl, map, arith, cond, nat_eq}
use Rattle.std.specs.List.{range_with_len}
use Rattle.wa_base.specs.declared.graph_names.Interp.{Interp}
use Rattle.wa_base.specs.declared.graph_names.Interp.TheVariants.{Speakers, Discrete}
use Rattle.mix_rules.specs.Mixing.{form, mix}
use Rattle.delay_line.specs.Delays.{Writer, delayed}
use Rattle.delay_line.specs.Spans.{heard_count, IsReached}
use Rattle.delay_line.specs.Lines.{Line, IsKept, Keeps, IsNext, count_at, frame_at}

-- samples are 1, 2, 3 and so on, in the second channel by 10 more; what a mono block has there is not heard
abbrev writer : Writer
writer = record { counts = λ k. cond (nat_eq k 1) 2 1; frames = λ g c. pos (g + 1 + 10 * c) }

-- frames 0 to 9 with a delay
abbrev with_delay : Interp → ℕ → ℕ → List ℤ
with_delay interp d c = map (λ f. delayed 4 writer interp 2 f d c) (range_with_len 0 10)

-- silence before birth, then what was written two frames ago
left : with_delay Speakers 2 0 ≡ pos 0 ∷ pos 0 ∷ pos 1 ∷ pos 2 ∷ pos 3 ∷ pos 4 ∷ pos 5 ∷ pos 6 ∷ pos 7 ∷ pos 8 ∷ []
unfolding mix form
left = refl

-- the mono past is heard on the right too
right : with_delay Speakers 2 1 ≡ pos 0 ∷ pos 0 ∷ pos 1 ∷ pos 2 ∷ pos 3 ∷ pos 4 ∷ pos 15 ∷ pos 16 ∷ pos 17 ∷ pos 18 ∷ []
unfolding mix form
right = refl

-- but not where channels are kept in order
right_discrete : with_delay Discrete 2 1 ≡ pos 0 ∷ pos 0 ∷ pos 0 ∷ pos 0 ∷ pos 0 ∷ pos 0 ∷ pos 15 ∷ pos 16 ∷ pos 17 ∷ pos 18 ∷ []
unfolding mix form
right_discrete = refl

-- a stereo past is heard after the input is mono again, and the mono present on both sides
later : map (λ f. delayed 4 writer Speakers 2 f 3 1) (9 ∷ 10 ∷ 11 ∷ 12 ∷ []) ≡ pos 17 ∷ pos 18 ∷ pos 9 ∷ pos 10 ∷ []
unfolding mix form
later = refl

-- no delay at all
at_once : with_delay Speakers 0 1 ≡ pos 1 ∷ pos 2 ∷ pos 3 ∷ pos 4 ∷ pos 15 ∷ pos 16 ∷ pos 17 ∷ pos 18 ∷ pos 9 ∷ pos 10 ∷ []
unfolding mix form
at_once = refl

-- a line for delays of up to 5 frames, after three blocks: it keeps frames 3 to 11
abbrev line : Line
line = record {
  capacity = 5;
  block = 4;
  blocks = 3;
  counts = 1 ∷ 2 ∷ 1 ∷ [];
  channels = (pos 4 ∷ pos 5 ∷ pos 6 ∷ pos 7 ∷ pos 8 ∷ pos 9 ∷ pos 10 ∷ pos 11 ∷ pos 12 ∷ []) ∷ (pos 15 ∷ pos 16 ∷ pos 17 ∷ pos 18 ∷ pos 0 ∷ pos 0 ∷ pos 0 ∷ pos 0 ∷ []) ∷ [];
}

oldest : IsKept line 3
oldest = (omega arith, omega arith)

newest : IsKept line 11
newest = (omega arith, omega arith)

too_old : IsKept line 2 → ⊥
too_old kept = let late = kept.1 in omega arith

too_new : IsKept line 12 → ⊥
too_new kept = let early = kept.0 in omega arith

counts : map (count_at line) (0 ∷ 1 ∷ 2 ∷ []) ≡ 1 ∷ 2 ∷ 1 ∷ []
counts = refl

frames : map (λ g. frame_at line g 0) (3 ∷ 4 ∷ 10 ∷ 11 ∷ []) ≡ pos 4 ∷ pos 5 ∷ pos 11 ∷ pos 12 ∷ []
frames = refl

-- a channel that came with the second block was silent before; there is no third one
other_frames : map (λ g. frame_at line g 1) (3 ∷ 4 ∷ 7 ∷ 8 ∷ []) ≡ pos 0 ∷ pos 15 ∷ pos 18 ∷ pos 0 ∷ []
other_frames = refl

no_channel : frame_at line 4 2 ≡ pos 0
no_channel = refl

-- who wrote what the line has wrote its second block in stereo, and frame 4 as the line has it
writer_of_line : (w : Writer) → Keeps line w → (w.counts 1 ≡ 2) × (w.frames 4 0 ≡ pos 5)
writer_of_line w keeps =
    let kept : IsKept line 4 = (omega arith, omega arith) in
    let count = sym (keeps.counts 4 kept) in
    (count, sym (keeps.frames 4 0 kept (omega (arith, count))))

-- the next block has frames 12 to 15
next : IsNext line writer 1 (pos 13 ∷ pos 14 ∷ pos 15 ∷ pos 16 ∷ []) → writer.frames 14 0 ≡ pos 15
next is = is.frames 0 2 (omega arith) (omega arith)

-- what is heard at a frame, with two channels, and what lies before birth
reached : IsReached line 6 2
reached born = (omega arith, omega arith)

two_channels : heard_count line 6 2 ≡ 2
two_channels = refl

before_birth : heard_count line 6 7 ≡ 0
before_birth = refl

-- every line stands for the writer of what it has, so that no contract is empty
keeps_itself : (any : Line) → Keeps any (record { counts = count_at any; frames = frame_at any })
keeps_itself any = record { counts = λ g kept. refl; frames = λ g c kept within. refl }
