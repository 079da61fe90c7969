use Rattle.std.proofs.Common.{ℕ, ◌≡◌, ◌<◌, ◌||◌, ◌&&◌, drop, length, slice_index_or}
use Rattle.std.specs.Prelude.{◌==◌}
use Rattle.std.specs.List.{list_any}
use Rattle.wa_base.specs.declared.graph_names.End.{End}
use Rattle.law_base.specs.Members.{IsIn}
use Rattle.cycle_order.specs.Arrows.{vertex_of}
use Rattle.cycle_order.specs.Counts.{holds}
use Rattle.cycle_order.proofs.places.first_ready.Given as goal

abbrev pub invariant-loop-end : goal.invariant-loop-end
invariant-loop-end l = record {
  within : (e : End) → IsIn e (drop l.end-index l.ends) → vertex_of e < length l.counts;
  ready : (v : ℕ) → (holds l.ready v || list_any (λ e. vertex_of e == v && slice_index_or l.counts (vertex_of e) 0 == 0) (drop l.end-index l.ends))
      ≡ list_any (λ e. vertex_of e == v && slice_index_or l.counts (vertex_of e) 0 == 0) l.ends;
}
