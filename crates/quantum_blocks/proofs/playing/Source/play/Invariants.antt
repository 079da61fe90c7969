use Rattle.std.proofs.Common.{ℕ, ◌≡◌, ◌+◌, ◌<◌, ◌*◌, length, Some}
use Rattle.mix_rules.specs.Blocks.{sample}
use Rattle.sched_source.specs.Schedule.{played}
use Rattle.meaning.specs.World.{channels_in, samples_in}
use Rattle.quantum_blocks.proofs.playing.Source.play.Given as goal

-- the lanes so far
abbrev pub invariant-loop-lane : goal.invariant-loop-lane
invariant-loop-lane l = record {
  length : length l.out ≡ l.lanes * l.frames;
  so_far : (k m : ℕ) → k < l.lane → k < channels_in l.self.store (Some l.self.buffer) → m < l.frames → sample l.frames l.out k m ≡ played l.self.sched (samples_in l.self.store (Some l.self.buffer) k) (l.first + m);
}
