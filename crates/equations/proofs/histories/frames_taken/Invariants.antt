use Rattle.std.proofs.Common.{◌≡◌}
use Rattle.equations.specs.Histories.{taken_at, back_from}
use Rattle.equations.proofs.histories.frames_taken.Given as goal

-- the frames so far
abbrev pub invariant-loop-ago : goal.invariant-loop-ago
invariant-loop-ago l = l.frames.items ≡ back_from (taken_at l.context l.heard) l.heard.frame 0 l.ago
