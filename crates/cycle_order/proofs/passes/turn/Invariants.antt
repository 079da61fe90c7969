use Rattle.std.proofs.Common.{ℕ, ◌≡◌, ◌<◌, [], ◌⊎◌, drop, length, slice_index_or}
use Rattle.std.specs.Prelude.{◌↔◌}
use Rattle.law_base.specs.Members.{IsIn}
use Rattle.cycle_order.proofs.passes.turn.Given as goal

abbrev pub invariant-loop-target : goal.invariant-loop-target
invariant-loop-target l = record {
  number : length l.back ≡ length l.fn.back;
  within : (v : ℕ) → IsIn v (drop l.target-index l.targets) → v < length l.back;
  turned : (b a : ℕ) → (IsIn a (slice_index_or l.back b []) ⊎ ((a ≡ l.vertex) × IsIn b (drop l.target-index l.targets))) ↔ (IsIn a (slice_index_or l.fn.back b []) ⊎ ((a ≡ l.vertex) × IsIn b l.targets));
}
