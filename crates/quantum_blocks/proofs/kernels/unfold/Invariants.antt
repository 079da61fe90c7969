use Rattle.quantum_blocks.proofs.Lanes.{IsUnfolded}
use Rattle.quantum_blocks.proofs.kernels.unfold.Given as goal

abbrev pub invariant-loop-lane : goal.invariant-loop-lane
invariant-loop-lane l = IsUnfolded l.frames l.lanes l.lane l.initial.values l.values

abbrev pub decreases-loop-lane : goal.decreases-loop-lane
decreases-loop-lane l = l.lane
