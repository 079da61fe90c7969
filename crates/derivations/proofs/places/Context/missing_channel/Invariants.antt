use Rattle.std.proofs.Common.{ℕ, ◌<◌}
use Rattle.explain.specs.declared.facts.Key.TheVariants.{Out}
use Rattle.derivations.specs.Contexts.{StandsIn}
use Rattle.derivations.proofs.places.Context.missing_channel.Given as goal

abbrev pub invariant-loop-channel : goal.invariant-loop-channel
invariant-loop-channel l = (c : ℕ) → c < l.channel → StandsIn l.self (Out l.frame l.end l.output c)
