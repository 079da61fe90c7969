use Rattle.std.proofs.Common.{ℕ, ◌≡◌, ◌<◌, ◌≤◌, ◌*◌, length, slice_index_or, Some, None}
use Rattle.delay_bank.specs.Kept.{DelayView, room_of, IsGrown}
use Rattle.delay_bank.proofs.delays.grow_each.Given as goal

-- the delays so far have room, and each keeps what it kept
abbrev pub invariant-loop-node : goal.invariant-loop-node
invariant-loop-node l = record {
  long : length l.delays ≡ length l.initial.delays;
  each : (n : ℕ) → IsGrown (slice_index_or l.initial.delays n None) (slice_index_or l.delays n None);
  room : (n : ℕ) (d : DelayView) → n < l.node → slice_index_or l.delays n None ≡ Some d → slice_index_or l.counts (2 * n) 1 ≤ room_of d;
}
