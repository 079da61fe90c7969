use Rattle.std.proofs.Common.{pos, ◌≡◌, ◌+◌, ◌-◌, get_or, ap, sym, ◌∙◌, arith}
use Rattle.sched_source.specs.Drawing.{around}
use Rattle.sched_source.proofs.Rounds.{around_none, around_on, around_end}
use Rattle.sched_source.proofs.Draws.{drawn_none, drawn_joined, drawn_read}
use Rattle.sched_source.proofs.playing.draw_rounds.Goals as goal

pub loop-m-init : goal.loop-m-init
loop-m-init c =
    let round = c.args.round in
    let none : c.args.from - c.args.from ≡ 0 = omega arith in
    record {
      drawn = drawn_none _ c.args.from c.args.from _ (omega arith);
      next = λ more. sym (ap (around round.start round.end round.at 1) none ∙ around_none round.start round.end round.at 1 c.requires.inside.0 c.requires.inside.1);
      from = c.requires.inside.0;
      within = c.requires.inside.1;
      begun = omega arith;
      stops = c.requires.ends.0;
    }

pub loop-m-preserved : goal.loop-m-preserved
loop-m-preserved c =
    let round = c.args.round in
    let from = c.args.from in
    let inv = c.loop-m.invariant in
    let m = c.loop-m.m in
    let at = c.loop-m.at in
    let count = c.min-count.result in
    let least = c.min-count.ensures in
    let more = c.loop-m-test.true in
    let here = inv.next more in
    let within = inv.within in
    let order = inv.begun in
    let part =
    drawn_read c.loop-m.out c.read.new.out c.args.channel.now m (m + count) (m + count - m) at _ c.read.ensures (omega arith) (omega (arith, c.requires.ends)) (omega (arith, c.requires.inside))
    (λ k few.
    let on : around round.start round.end round.at 1 (m - from + k) ≡ at + k = around_on round.start round.end round.at (m - from) at k here (omega arith) in
    let e : m - from + k ≡ m + k - from = omega arith in
    ap (λ p. get_or c.args.channel.now p (pos 0)) (sym on ∙ ap (around round.start round.end round.at 1) e)) in
    record {
      drawn = drawn_joined _ _ _ from m (m + count) _ inv.drawn part (omega arith) (omega arith);
      next = λ again.
          let all : m - from + (round.end - at) ≡ m + count - from = omega arith in
          sym (around_end round.start round.end round.at (m - from) at here within) ∙ ap (around round.start round.end round.at 1) all;
      from = omega arith;
      within = omega (arith, c.requires.inside);
      begun = omega arith;
      stops = omega arith;
    }
