use Rattle.worklet.specs.Errors.{AreFine}
use Rattle.worklet.proofs.checker.end_height.Given as goal

-- the places so far are without an error, and these are their heights
abbrev pub invariant-loop-place : goal.invariant-loop-place
invariant-loop-place l = AreFine l.code l.heights.items l.place
