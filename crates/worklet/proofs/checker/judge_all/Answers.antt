use Rattle.std.proofs.Common.{inr, refl}
use Rattle.std.proofs.lemmas.Bool.{iff_false}
use Rattle.worklet.proofs.Judging.{accepted_at_end}
use Rattle.worklet.proofs.checker.judge_all.Goals as goal

pub returns-then-not-is_long-clause-error : goal.returns-then-not-is_long-clause-error
returns-then-not-is_long-clause-error c = inr (refl, iff_false c.is_long.ensures c.if-not-is_long.true)

pub returns-then-height-ne1-clause-error : goal.returns-then-height-ne1-clause-error
returns-then-height-ne1-clause-error c =
    let judged = c.in_ok-height.ensures.height in
    inr (record {
      long = judged.long;
      there = judged.there;
      heights = judged.heights;
      before = judged.before;
      fault = (judged.fault, c.if-height-ne1.true);
    })

pub returns-clause-accepted : goal.returns-clause-accepted
returns-clause-accepted c = accepted_at_end c.args.code.now c.in_ok-height.height c.in_ok-height.ensures.height c.if-height-ne1.false
