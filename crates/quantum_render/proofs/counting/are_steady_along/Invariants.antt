use Rattle.std.proofs.Common.{◌⊎◌, ◌≤◌, length}
use Rattle.wa_base.specs.declared.graph_names.End.{End}
use Rattle.law_base.specs.Members.{IsIn}
use Rattle.conn_graph.specs.Ends.{ends}
use Rattle.quantum_render.specs.Plans.{IsSteady}
use Rattle.quantum_render.proofs.Along.{HoldsUpTo}
use Rattle.quantum_render.proofs.counting.are_steady_along.Given as goal

abbrev pub invariant-loop-end : goal.invariant-loop-end
invariant-loop-end l = record {
  within : l.next ≤ length l.plan.timed;
  there : HoldsUpTo (λ (d : End). IsIn d (ends l.world.graph.value)) l.plan.timed l.next;
  steady : HoldsUpTo (λ (d : End). IsIn d l.plan.timed ⊎ IsSteady l.world l.counts d) l.plan.order l.end-index;
}
