use Rattle.std.proofs.Common.{ℕ, ◌≡◌, ◌<◌, ◌+◌, drop, length, slice_index_or}
use Rattle.wa_base.specs.declared.graph_names.End.{End}
use Rattle.law_base.specs.Members.{IsIn}
use Rattle.cycle_order.specs.Arrows.{vertex_of}
use Rattle.cycle_order.specs.Counts.{entering, bias}
use Rattle.cycle_order.proofs.places.counts_of.Given as goal

abbrev pub invariant-loop-end : goal.invariant-loop-end
invariant-loop-end l = record {
  number : length l.counts.items ≡ length l.arrows;
  within : (e : End) → IsIn e (drop l.end-index l.ends) → vertex_of e < length l.arrows;
  counted : (v : ℕ) → v < length l.arrows → slice_index_or l.counts.items v 0 + entering l.arrows (drop l.end-index l.ends) v ≡ bias l.ends v + entering l.arrows l.ends v;
}
