use Rattle.std.proofs.Common.{◌≡◌}
use Rattle.effect_tests.proofs.causal_digests.played.Given as goal

abbrev pub invariant-loop : goal.invariant-loop
invariant-loop g l = g.K.Causal.room l.state ≡ 2
