use Rattle.std.proofs.Common.{ℕ, ◌≡◌, ◌<◌, [], true, length, slice_index_or}
use Rattle.std.specs.Prelude.{◌↔◌}
use Rattle.law_base.specs.Members.{IsIn}
use Rattle.cycle_order.specs.Reach.{leads}
use Rattle.cycle_order.proofs.passes.turned.Given as goal

abbrev pub invariant-loop-vertex : goal.invariant-loop-vertex
invariant-loop-vertex l = record {
  number : length l.back ≡ length l.arrows;
  turned : (b a : ℕ) → IsIn a (slice_index_or l.back b []) ↔ ((a < l.vertex) × (leads l.arrows a b ≡ true));
}
