use Rattle.std.proofs.Common.{◌≡◌, ◌<◌, ◌++◌, drop, length}
use Rattle.wa_base.specs.declared.graph_names.End.{End}
use Rattle.law_base.specs.Members.{IsIn}
use Rattle.cycle_order.specs.Arrows.{vertex_of}
use Rattle.cycle_order.specs.Surveys.{marked_ends}
use Rattle.cycle_order.proofs.surveys.marked_ends.Given as goal

abbrev pub invariant-loop-end : goal.invariant-loop-end
invariant-loop-end l = record {
  within : (e : End) → IsIn e (drop l.end-index l.ends) → vertex_of e < length l.marks;
  marked : l.marked ++ marked_ends l.marks (drop l.end-index l.ends) ≡ marked_ends l.marks l.ends;
}
