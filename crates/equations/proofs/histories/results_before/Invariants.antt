use Rattle.std.proofs.Common.{◌≡◌}
use Rattle.equations.specs.Histories.{result_at, back_from}
use Rattle.equations.proofs.histories.results_before.Given as goal

-- the results so far
abbrev pub invariant-loop-ago : goal.invariant-loop-ago
invariant-loop-ago l = l.results.items ≡ back_from (result_at l.context l.heard) l.heard.frame 1 l.ago
