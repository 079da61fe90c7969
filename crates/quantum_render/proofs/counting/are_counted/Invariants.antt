use Rattle.quantum_render.specs.Plans.{AsCounted}
use Rattle.quantum_render.proofs.Along.{HoldsUpTo}
use Rattle.quantum_render.proofs.counting.are_counted.Given as goal

abbrev pub invariant-loop-end : goal.invariant-loop-end
invariant-loop-end l = HoldsUpTo (AsCounted l.census.delays.now l.census.world.now l.census.first l.counts) l.timed l.end-index
