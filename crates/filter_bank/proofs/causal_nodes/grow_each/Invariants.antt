use Rattle.std.proofs.Common.{ℕ, ◌≡◌, ◌<◌, ◌≤◌, ◌+◌, ◌*◌, length, slice_index_or, Some, None}
use Rattle.filter_bank.specs.Heard.{HeardView, room_of}
use Rattle.filter_bank.specs.Banks.{IsSameIfThere}
use Rattle.filter_bank.proofs.causal_nodes.grow_each.Given as goal

-- the causal nodes so far have room, and none is changed but for that
abbrev pub invariant-loop-node : goal.invariant-loop-node
invariant-loop-node l = record {
  long : length l.nodes ≡ length l.initial.nodes;
  same : (n : ℕ) → IsSameIfThere (slice_index_or l.initial.nodes n None) (slice_index_or l.nodes n None);
  room : (n : ℕ) (f : HeardView) → n < l.node → slice_index_or l.nodes n None ≡ Some f → (slice_index_or l.counts (2 * n + 1) 1 ≤ room_of f) × (room_of f ≤ 32);
}
