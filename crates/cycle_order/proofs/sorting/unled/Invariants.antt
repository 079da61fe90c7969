use Rattle.std.proofs.Common.{◌≡◌, filter, slice_index_or}
use Rattle.std.specs.Prelude.{◌==◌}
use Rattle.std.specs.List.{range_with_len}
use Rattle.cycle_order.proofs.sorting.unled.Given as goal

abbrev pub invariant-loop-vertex : goal.invariant-loop-vertex
invariant-loop-vertex l = l.free.items ≡ filter (λ v. slice_index_or l.counts v 0 == 0) (range_with_len 0 l.vertex)
