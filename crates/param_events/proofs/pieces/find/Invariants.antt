use Rattle.std.proofs.Common.{◌≡◌, ◌+◌, ◌-◌, length, take}
use Rattle.param_events.specs.Pieces.{all}
use Rattle.param_events.proofs.pieces.find.Given as goal

abbrev pub invariant-loop-rest : goal.invariant-loop-rest
invariant-loop-rest l = length (all (take l.k l.pieces)) + l.rest ≡ l.i

abbrev pub decreases-loop-rest : goal.decreases-loop-rest
decreases-loop-rest l = length l.pieces - l.k
