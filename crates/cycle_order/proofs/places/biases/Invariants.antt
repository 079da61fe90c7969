use Rattle.std.proofs.Common.{ℕ, ◌≡◌, ◌<◌, drop, length, slice_index_or}
use Rattle.std.specs.Prelude.{◌==◌, if◌then◌else◌}
use Rattle.std.specs.List.{list_any}
use Rattle.wa_base.specs.declared.graph_names.End.{End}
use Rattle.law_base.specs.Members.{IsIn}
use Rattle.cycle_order.specs.Arrows.{vertex_of}
use Rattle.cycle_order.specs.Counts.{bias}
use Rattle.cycle_order.proofs.places.biases.Given as goal

abbrev pub invariant-loop-end : goal.invariant-loop-end
invariant-loop-end l = record {
  number : length l.counts.items ≡ l.vertices;
  within : (e : End) → IsIn e (drop l.end-index l.ends) → vertex_of e < l.vertices;
  biased : (v : ℕ) → v < l.vertices → (if list_any (λ e. vertex_of e == v) (drop l.end-index l.ends) then 0 else slice_index_or l.counts.items v 0) ≡ bias l.ends v;
}
