use Rattle.std.proofs.Common.{rules, pos, ◌≡◌, ◌+◌, ◌-◌, get_or, FitsSigned, ap, sym, ◌∙◌, arith}
use Rattle.std.specs.Int.{w32}
use Rattle.std.proofs.lemmas.Int.{to_z-of_z}
use Rattle.sched_source.specs.Drawing.{around}
use Rattle.sched_source.proofs.Rounds.{around_none, around_next, around_within}
use Rattle.sched_source.proofs.Draws.{drawn_more, drawn_none}
use Rattle.sched_source.proofs.playing.draw_jumps.Goals as goal

pub loop-m-init : goal.loop-m-init
loop-m-init c =
    let round = c.args.round in
    let none : c.args.from - c.args.from ≡ 0 = omega arith in
    record {
      drawn = drawn_none _ c.args.from c.args.from _ (omega arith);
      next = sym (ap (around round.start round.end round.at round.jump) none ∙ around_none round.start round.end round.at round.jump c.requires.inside.0 c.requires.inside.1);
      from = c.requires.inside.0;
      within = c.requires.inside.1;
    }

pub loop-m-preserved : goal.loop-m-preserved
loop-m-preserved c =
    let round = c.args.round in
    let m = c.loop-m.m in
    let inv = c.loop-m.invariant in
    let fits : FitsSigned w32 c.get.result = search rules in
    let one : m - c.args.from + 1 ≡ m + 1 - c.args.from = omega arith in
    let within = around_within round.start round.end c.loop-m.at round.jump 1 (omega arith) in
    record {
      drawn = drawn_more _ c.loop-m.out c.args.from m _ _ inv.drawn (omega arith) (omega arith) (to_z-of_z _ _ fits ∙ c.get.ensures ∙ ap (λ k. get_or c.args.channel.now k (pos 0)) inv.next);
      next = c.moved-at.ensures ∙ around_next round.start round.end round.at round.jump (m - c.args.from) c.loop-m.at inv.next ∙ ap (around round.start round.end round.at round.jump) one;
      from = omega (arith, c.moved-at.ensures);
      within = omega (arith, c.moved-at.ensures, within);
    }
