use Rattle.worklet.specs.Arrivals.{Arrives}
use Rattle.worklet.proofs.checker.arrival.Given as goal

-- what the places so far leave to this one
abbrev pub invariant-loop-i : goal.invariant-loop-i
invariant-loop-i l = Arrives l.code l.heights l.place l.i l.found
