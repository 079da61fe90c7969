use Rattle.std.proofs.Common.{sym, subst, arith}
use Rattle.derivations.specs.Tapes.{worlds}
use Rattle.explain.specs.Facts.{IsKeyOf}
use Rattle.explain_top.proofs.Samples.{sample_key}
use Rattle.explain_top.proofs.answering.derived.Goals as goal

pub derive-requires-clause-key : goal.derive-requires-clause-key
derive-requires-clause-key c =
    let count = c.from.ensures in
    let below = c.if-channel-from.false in
    subst (IsKeyOf c.args.spec.quantum (worlds c.args.tape.now)) (sym c.sample.ensures) (sample_key c.args.spec (worlds c.args.tape.now) c.args.frame c.args.channel c.requires c.if-frame-spec.false (omega (arith, count, below)))
