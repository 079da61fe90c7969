use Rattle.std.proofs.Common.{◌-◌, length}
use Rattle.cycle_order.proofs.Placed.{IsPlacing}
use Rattle.cycle_order.proofs.places.place_all.Given as goal

abbrev pub invariant-loop-vertex : goal.invariant-loop-vertex
invariant-loop-vertex l = IsPlacing l.arrows l.tie l.ends l.counts.items l.ready l.placed

abbrev pub decreases-loop-vertex : goal.decreases-loop-vertex
decreases-loop-vertex l = length l.ends - length l.placed
