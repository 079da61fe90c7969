use Rattle.std.proofs.Common.{◌≡◌, ◌≤◌, take, length, vec_capacity}
use Rattle.buffer_store.proofs.store.share_all.Given as goal

abbrev pub invariant-loop-buffer : goal.invariant-loop-buffer
invariant-loop-buffer l = (l.shared.items ≡ take l.buffer-index l.buffers) × (length l.buffers ≤ vec_capacity l.shared)
