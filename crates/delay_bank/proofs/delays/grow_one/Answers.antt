use Rattle.std.proofs.Common.{refl, sym, ◌∙◌, ap, subst}
use Rattle.std.specs.Prelude.{unwrap_or}
use Rattle.delay_bank.specs.Kept.{DelayView, HasKept}
use Rattle.delay_bank.proofs.Same.{grown_refl}
use Rattle.delay_bank.proofs.delays.grow_one.Goals as goal

pub returns-in-Some-clause-grown : goal.returns-in-Some-clause-grown
returns-in-Some-clause-grown c = record {
  still = λ q longest born now writer.
      let still = c.grow.ensures.still q longest born now writer in (
        λ is. record {
          delay = c.grow.new.self;
          there = refl;
          has = still.0 (subst (λ (d : DelayView). HasKept q d longest born now writer) (ap (λ o. unwrap_or o is.delay) (sym is.there ∙ c.in-Some.is)) is.has);
        },
        λ is. record {
          delay = c.in-Some.delay;
          there = c.in-Some.is;
          has = still.1 (subst (λ (d : DelayView). HasKept q d longest born now writer) (ap (λ o. unwrap_or o is.delay) (sym is.there)) is.has);
        },
      );
  block = λ q is d there. ap (λ o. (unwrap_or o d).line.block) (sym there) ∙ c.grow.ensures.block ∙ is c.in-Some.delay c.in-Some.is;
}

pub returns-in-None-clause-grown : goal.returns-in-None-clause-grown
returns-in-None-clause-grown c = rw c.in-None.is (grown_refl _)
