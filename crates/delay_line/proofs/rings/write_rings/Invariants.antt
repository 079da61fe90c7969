use Rattle.std.proofs.Common.{ℕ, ℤ, ◌≡◌, ◌<◌, ◌≤◌}
use Rattle.std.specs.Prelude.{slice_index_or}
use Rattle.circular_buffer.specs.Buffer.{Buffer}
use Rattle.delay_line.specs.Rings.{IsExtended}
use Rattle.delay_line.proofs.rings.write_rings.Given as goal

pub record Writing (here rest : Type 0) : Type 0 where
  pub written : here
  pub others : rest

abbrev pub invariant-loop-c : goal.invariant-loop-c
invariant-loop-c l = Writing
    ((k : ℕ) (ring : Buffer ℤ) → k < l.c → IsExtended (slice_index_or l.fn.rings k ring) (slice_index_or l.rings k ring) l.block l.channels l.frames k)
    ((k : ℕ) (ring : Buffer ℤ) → l.c ≤ k → slice_index_or l.rings k ring ≡ slice_index_or l.fn.rings k ring)
