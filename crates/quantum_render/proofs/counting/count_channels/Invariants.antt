use Rattle.quantum_render.proofs.CountPass.{Counting}
use Rattle.quantum_render.proofs.counting.count_channels.Given as goal

abbrev pub invariant-loop-end : goal.invariant-loop-end
invariant-loop-end l = Counting l.census.world.now l.census.delays.now l.census.first l.order l.end-index l.counts
