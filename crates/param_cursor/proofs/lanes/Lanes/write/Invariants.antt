use Rattle.std.proofs.Common.{ℕ, pos, ◌≡◌, ◌<◌, length, slice_index_or}
use Rattle.param_cursor.proofs.lanes.Lanes.write.Given as goal

-- the frames so far
abbrev pub invariant-loop-i : goal.invariant-loop-i
invariant-loop-i l = record {
  length : length l.out ≡ 8;
  so_far : (i : ℕ) → i < l.i → slice_index_or l.out i (pos 0) ≡ slice_index_or l.self.values i (pos 0);
}
