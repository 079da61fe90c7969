-- The voices of a generated script: what is drawn for each, and the calls that make it.
use Rattle.std.specs.Prelude.{ℕ, zero, suc, ◌+◌, ◌*◌, ◌/◌, ◌%◌, ◌<◌, ◌==◌, ℤ, pos, ◌*ℤ◌, ◌-ℤ◌, List, [], ◌∷◌, ◌++◌, codes, decimal, None, if◌then◌else◌}
use Rattle.node_table.specs.declared.kinds.Kind.TheVariants as node
use Rattle.script_ast.specs.declared.operations.Op.{Op}
use Rattle.script_ast.specs.declared.operations.Op.TheVariants as op

-- ---- random numbers

-- the state after this one
abbrev pub next_state : ℕ → ℕ
next_state state = (1103515245 * state + 12345) % 2147483648

-- the state after so many draws
abbrev pub state_after : ℕ → ℕ → ℕ
state_after zero seed = seed
state_after (suc draws) seed = next_state (state_after draws seed)

-- the number below `most` that a state gives
abbrev pub number_of : ℕ → ℕ → ℕ
number_of state most = (state / 65536) % most

-- the number below `most` that one of the draws from a state on gives; they are counted from 1
abbrev pub drawn : ℕ → ℕ → ℕ → ℕ
drawn state draw most = number_of (state_after draw state) most

-- ---- a voice

-- the place of a voice, from 0 on, and the four numbers drawn for it
pub record Voice : Type 0 where
  pub place : ℕ
  pub offset : ℕ
  pub gain : ℕ
  pub time : ℕ
  pub delay : ℕ

-- each is below its bound
pub record IsVoice (voice : Voice) : Type 0 where
  pub place : voice.place < 200
  pub offset : voice.offset < 2048
  pub gain : voice.gain < 32768
  pub time : voice.time < 4096
  pub delay : voice.delay < 240

-- what the next four draws make of a place
abbrev pub next_voice : ℕ → ℕ → Voice
next_voice state place = record {
  place = place;
  offset = drawn state 1 2048;
  gain = drawn state 2 32768;
  time = drawn state 3 4096;
  delay = drawn state 4 240;
}

-- the voices draw one after another
abbrev pub voice : ℕ → ℕ → Voice
voice seed place = next_voice (state_after (4 * place) seed) place

-- ---- names

-- a letter and a number
abbrev pub named : List ℕ → ℕ → List ℕ
named letter place = letter ++ decimal place

-- the source of a voice, its gain, its delay, and the gain that feeds the delay back
abbrev pub source : ℕ → List ℕ
source place = named (codes "c") place

abbrev pub gain : ℕ → List ℕ
gain place = named (codes "g") place

abbrev pub delay : ℕ → List ℕ
delay place = named (codes "d") place

abbrev pub feedback : ℕ → List ℕ
feedback place = named (codes "f") place

-- ---- the calls of a voice

-- the first output of one node to the first input of another
abbrev pub connected : List ℕ → List ℕ → Op
connected from to = op.Connect from 0 to 0

-- the offset of a voice's source, around 0
abbrev pub level_of : ℕ → ℤ
level_of offset = (pos offset -ℤ pos 1024) *ℤ pos 64

-- a source through a gain, whose gain goes from 0 along a ramp
abbrev pub ramp_ops : Voice → List Op
ramp_ops v =
    op.Create (source v.place) (node.Constant (level_of v.offset)) ∷
    op.Create (gain v.place) (node.Gain (pos 0)) ∷
    op.SetValueAtTime (gain v.place) (codes "gain") (pos 0) (pos 0) ∷
    op.LinearRampToValueAtTime (gain v.place) (codes "gain") (pos (v.gain * 256)) (pos (1 + 64 * v.time)) ∷
    connected (source v.place) (gain v.place) ∷ []

-- the gain through a delay that is fed back by half
abbrev pub delay_ops : Voice → List Op
delay_ops v =
    op.CreateDelay (delay v.place) (pos 16777216) (pos (v.delay * 65536)) ∷
    op.Create (feedback v.place) (node.Gain (pos 8388608)) ∷
    connected (gain v.place) (delay v.place) ∷
    connected (delay v.place) (feedback v.place) ∷
    connected (feedback v.place) (delay v.place) ∷
    connected (delay v.place) (codes "destination") ∷ []

-- each eighth voice goes through a delay, and the others go to the destination
abbrev pub way_ops : Voice → List Op
way_ops v = if v.place % 8 == 7 then delay_ops v else connected (gain v.place) (codes "destination") ∷ []

-- when it starts and stops
abbrev pub time_ops : Voice → List Op
time_ops v =
    op.Start (source v.place) (pos (128 * (v.place % 50))) (pos 0) None ∷
    op.Stop (source v.place) (pos (240000 + 128 * v.place)) ∷ []

abbrev pub voice_ops : Voice → List Op
voice_ops v = ramp_ops v ++ way_ops v ++ time_ops v

-- the calls of the first voices
abbrev pub ops_of_voices : ℕ → ℕ → List Op
ops_of_voices seed zero = []
ops_of_voices seed (suc voices) = ops_of_voices seed voices ++ voice_ops (voice seed voices)
