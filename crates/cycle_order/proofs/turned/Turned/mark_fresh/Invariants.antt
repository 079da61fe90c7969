use Rattle.std.proofs.Common.{ℕ, ◌<◌, List, Bool, [], length, slice_index_or}
use Rattle.law_base.specs.Members.{IsIn}
use Rattle.cycle_order.specs.Links.{chain, IsBelow}
use Rattle.cycle_order.specs.Reach.{IsMarking}
use Rattle.cycle_order.proofs.Links.{left}
use Rattle.cycle_order.proofs.turned.Turned.mark_fresh.Given as goal

-- marking what is left of the chain marks it all
abbrev pub invariant-loop-at : goal.invariant-loop-at
invariant-loop-at l = record {
  there : IsBelow (length l.self-inside.links.items) l.at;
  within : (u : ℕ) → IsIn u (chain l.self-inside.links.items (length l.self-inside.links.items) l.at) → u < length l.marks;
  rest : (marks' : List Bool) (found' : List ℕ) → IsMarking (chain l.self-inside.links.items (length l.self-inside.links.items) l.at) l.marks l.found.items marks' found'
      → IsMarking (slice_index_or l.self l.to []) l.fn.marks l.fn.found.items marks' found';
}

abbrev pub decreases-loop-at : goal.decreases-loop-at
decreases-loop-at l = left l.at
