use Rattle.std.proofs.Common.{sym, subst}
use Rattle.derivations.specs.Tapes.{worlds}
use Rattle.explain_top.proofs.Cuts.{IsChecking, checking_goes_on}
use Rattle.explain_top.proofs.checking.check.Goals as goal

pub loop-rest-preserved : goal.loop-rest-preserved
loop-rest-preserved c =
    subst (λ facts. IsChecking c.args.quantum (worlds c.args.tape.now) c.args.text.now facts c.in_ok-fact.more.now) (sym c.in_ok-push.ensures.ok)
    (checking_goes_on c.args.quantum c.requires.some (worlds c.args.tape.now) c.requires.regular c.args.text.now c.loop-rest.known c.loop-rest.rest.now c.in_ok-fact.fact c.in_ok-fact.more.now c.loop-rest.invariant c.in_ok-fact.ensures.next)
