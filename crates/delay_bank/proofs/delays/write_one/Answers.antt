use Rattle.std.proofs.Common.{refl, sym, ◌∙◌, ap, subst}
use Rattle.std.specs.Prelude.{unwrap_or}
use Rattle.delay_bank.specs.Kept.{DelayView, HasKept, room_of}
use Rattle.delay_bank.proofs.delays.write_one.Goals as goal

pub returns-in-Some-clause-rooms : goal.returns-in-Some-clause-rooms
returns-in-Some-clause-rooms c e is = (c.in-Some.delay, c.in-Some.is, ap (λ o. room_of (unwrap_or o e)) (sym is) ∙ c.write.ensures.room)

pub returns-in-Some-clause-own : goal.returns-in-Some-clause-own
returns-in-Some-clause-own c q longest born writer is brings = record {
  delay = c.write.new.self;
  there = refl;
  has = c.write.ensures.kept q longest born writer (subst (λ (d : DelayView). HasKept q d longest born c.args.first writer) (ap (λ o. unwrap_or o is.delay) (sym is.there ∙ c.in-Some.is)) is.has) brings;
}

pub returns-in-Some-clause-block : goal.returns-in-Some-clause-block
returns-in-Some-clause-block c q is d there = ap (λ o. (unwrap_or o d).line.block) (sym there) ∙ c.write.ensures.block ∙ is c.in-Some.delay c.in-Some.is
