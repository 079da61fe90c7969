use Rattle.std.proofs.Common.{◌≡◌, ◌<◌, ◌^◌, length, List, Result, Err, ap, subst}
use Rattle.derivations.specs.Tapes.{worlds}
use Rattle.explain.specs.declared.facts.Fact.{Fact}
use Rattle.explain.specs.Texts.{facts_text}
use Rattle.explain_top.specs.declared.derivation.DeriveErr.{DeriveErr}
use Rattle.explain_top.specs.declared.derivation.DeriveErr.TheVariants.{TooLong}
use Rattle.explain_top.proofs.Stacks.{too_long}
use Rattle.explain_top.proofs.derivation.derive.Goals as goal

same_error : {T : Type 0} (a b : DeriveErr) → let r : Result T DeriveErr = Err a in r ≡ Err b → a ≡ b
same_error a b e = cc

pub returns-clause-long : goal.returns-clause-long
returns-clause-long c stop =
    let is = c.in_ok-known.ensures.derivation in
    too_long c.args.quantum c.requires.some (worlds c.args.tape.now) c.requires.regular c.args.key c.in_ok-known.known is.checked is.once c.in_ok-known.ensures.needed
    (subst (λ (facts : List Fact). 2 ^ 26 < length (facts_text facts)) c.as_slice.ensures (c.in-Err.ensures.long (ap (λ e. Err e) (same_error c.in-Err.error TooLong stop))))
