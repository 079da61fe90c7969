use Rattle.std.proofs.Common.{ℕ, ◌≡◌, ◌<◌, ◌+◌, ◌||◌, ◌&&◌, drop, length, nat_lt, slice_index_or}
use Rattle.std.specs.Prelude.{◌==◌}
use Rattle.law_base.specs.Members.{IsIn}
use Rattle.cycle_order.specs.Counts.{times, holds}
use Rattle.cycle_order.proofs.places.release.Given as goal

-- the vertices so far have one less for each time, and are ready at 0
abbrev pub invariant-loop-target : goal.invariant-loop-target
invariant-loop-target l = record {
  number : length l.counts ≡ length l.fn.counts;
  within : (v : ℕ) → IsIn v (drop l.target-index l.targets) → v < length l.counts;
  counted : (v : ℕ) → v < length l.fn.counts → slice_index_or l.counts v 0 + times v l.targets ≡ slice_index_or l.fn.counts v 0 + times v (drop l.target-index l.targets);
  ready : (v : ℕ) → holds l.ready v ≡ (holds l.fn.ready v || (nat_lt (times v (drop l.target-index l.targets)) (times v l.targets) && slice_index_or l.counts v 0 == 0));
}
