-- What the reader of a delay gives of what its writer wrote.
use Rattle.std.specs.Prelude.{ℕ, ◌-◌, ◌/◌, nat_lt, if◌then◌else◌, ℤ, pos}
use Rattle.wa_base.specs.declared.graph_names.Interp.{Interp}
use Rattle.mix_rules.specs.Mixing.{mix}

-- What was written since the delay's birth, which is at frame 0: with how many channels each block, and channel c of frame g.
pub record Writer : Type 0 where
  pub counts : ℕ → ℕ
  pub frames : ℕ → ℕ → ℤ

-- Channel c of the reader's frame f, where the delay is d frames and blocks have so many frames: the writer's frame f - d, mixed from the number of channels that its block had to that of the reader, by the interpretation in force at f. It is 0 before birth.
abbrev pub delayed : ℕ → Writer → Interp → ℕ → ℕ → ℕ → ℕ → ℤ
delayed block writer interp channels f d c =
    if nat_lt f d then pos 0 else mix interp (writer.counts ((f - d) / block)) channels (writer.frames (f - d)) c
