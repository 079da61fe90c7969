use Rattle.std.proofs.Common.{rules, pos, ◌≡◌, ◌<◌, ◌+◌, ◌-◌, ◌*◌, length, get_or, FitsSigned, ap, sym, subst, ◌∙◌, arith}
use Rattle.std.specs.Int.{w32}
use Rattle.std.proofs.lemmas.Int.{to_z-of_z}
use Rattle.sched_source.proofs.Rounds.{moved_once}
use Rattle.sched_source.proofs.Draws.{drawn_more, drawn_read}
use Rattle.sched_source.proofs.playing.draw_straight.Goals as goal

pub loop-m-preserved : goal.loop-m-preserved
loop-m-preserved c =
    let m = c.loop-m.m in
    let here = c.loop-m.invariant.next in
    let fits : FitsSigned w32 c.get.result = search rules in
    let one : m - c.args.from + 1 ≡ m + 1 - c.args.from = omega arith in
    record {
      drawn = drawn_more _ c.loop-m.out c.args.from m _ _ c.loop-m.invariant.drawn (omega arith) (omega arith) (to_z-of_z _ _ fits ∙ c.get.ensures ∙ ap (λ k. get_or c.args.channel.now k (pos 0)) here);
      next = ap (λ k. k + c.args.rate) here ∙ moved_once c.args.at (m - c.args.from) c.args.rate ∙ ap (λ k. c.args.at + k * c.args.rate) one;
    }

pub returns-then-rate-eq1 : goal.returns-then-rate-eq1
returns-then-rate-eq1 c =
    let from = c.args.from in
    let to = c.args.to in
    let last = c.requires.inside (to - 1) (omega arith) (omega arith) in
    let one = c.if-rate-eq1.true in
    let whole : c.args.at + (to - 1 - from) * 1 < length c.args.channel.now = subst (λ r. c.args.at + (to - 1 - from) * r < length c.args.channel.now) one last in
    drawn_read c.args.out.now c.read.new.out c.args.channel.now from to (to - from) c.args.at _ c.read.ensures (omega arith) c.requires.ends.1 (omega (arith, whole))
    (λ k few. let e : c.args.at + k ≡ c.args.at + (from + k - from) * 1 = omega arith in ap (λ p. get_or c.args.channel.now p (pos 0)) (e ∙ ap (λ r. c.args.at + (from + k - from) * r) (sym one)))
