use Rattle.std.proofs.Common.{ℕ, ◌≡◌, ◌<◌, ◌⊎◌, drop, length, slice_index_or}
use Rattle.law_base.specs.Members.{IsIn}
use Rattle.cycle_order.proofs.passes.lead.Given as goal

abbrev pub invariant-loop-vertex : goal.invariant-loop-vertex
invariant-loop-vertex l = record {
  within : (v : ℕ) → IsIn v (drop l.vertex-index l.tree) → v < length l.leaders;
  tree : (v : ℕ) → IsIn v l.tree → IsIn v (drop l.vertex-index l.tree) ⊎ (slice_index_or l.leaders v 0 ≡ l.root);
  others : (v : ℕ) → (IsIn v l.tree → ⊥) → slice_index_or l.leaders v 0 ≡ slice_index_or l.fn.leaders v 0;
}
