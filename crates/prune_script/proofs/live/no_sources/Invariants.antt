use Rattle.std.proofs.Common.{◌≡◌, ℕ, List, [], replicate}
use Rattle.prune_script.proofs.live.no_sources.Given as goal

abbrev pub invariant-loop : goal.invariant-loop
invariant-loop l = l.sources.items ≡ replicate {A = List ℕ} l.counter []
