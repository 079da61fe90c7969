use Rattle.std.proofs.Common.{ℕ, pos, ◌≡◌, ◌<◌, slice_index_or}
use Rattle.std.specs.Prelude.{max}
use Rattle.node_table.specs.Delays.{frames_of}
use Rattle.delay_bank.proofs.spans.span_each.Given as goal

abbrev pub invariant-loop-m : goal.invariant-loop-m
invariant-loop-m l = (k : ℕ) → k < l.m → slice_index_or l.spans k 0 ≡ max l.least (frames_of (slice_index_or l.levels k (pos 0)) l.rate)
