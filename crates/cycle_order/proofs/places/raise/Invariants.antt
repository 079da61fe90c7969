use Rattle.std.proofs.Common.{ℕ, ◌≡◌, ◌<◌, ◌+◌, drop, length, slice_index_or}
use Rattle.law_base.specs.Members.{IsIn}
use Rattle.cycle_order.specs.Counts.{times}
use Rattle.cycle_order.proofs.places.raise.Given as goal

abbrev pub invariant-loop-target : goal.invariant-loop-target
invariant-loop-target l = record {
  number : length l.counts ≡ length l.fn.counts;
  within : (v : ℕ) → IsIn v (drop l.target-index l.targets) → v < length l.counts;
  counted : (v : ℕ) → v < length l.fn.counts → slice_index_or l.counts v 0 + times v (drop l.target-index l.targets) ≡ slice_index_or l.fn.counts v 0 + times v l.targets;
}
