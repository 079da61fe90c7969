use Rattle.std.proofs.Common.{ℕ}
use borrow.Author.Count.{below_more}
use Rattle.explain.specs.declared.facts.Key.TheVariants.{Out}
use Rattle.derivations.specs.Contexts.{StandsIn}
use Rattle.derivations.proofs.places.Context.missing_channel.Goals as goal

pub loop-channel-preserved : goal.loop-channel-preserved
loop-channel-preserved c =
    below_more (λ (k : ℕ). StandsIn c.args.self (Out c.args.frame c.args.end c.args.output k)) c.loop-channel.channel c.loop-channel.invariant c.in-None.ensures.none
