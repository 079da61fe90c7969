use Rattle.std.proofs.Common.{◌≡◌, ◌<◌, ◌+◌, ◌*◌, ◌/◌, sym, ◌∙◌, ap, arith, subst}
use Rattle.mix_rules.specs.Counts.{greatest}
use Rattle.meaning.specs.Lists.{since}
use Rattle.delay_bank.specs.Kept.{DelayView, HasKept, since_birth}
use Rattle.delay_bank.proofs.Keeping.{greatest_with, comes_next}
use Rattle.delay_bank.proofs.delay.NodeDelay.write.Goals as goal

pub returns-clause-kept : goal.returns-clause-kept
returns-clause-kept c q longest born writer kept brings =
    let has = subst (λ (d : DelayView). HasKept q d longest born c.args.first writer) (sym c.self.view_is) kept in
    let line = c.self.inside.line in
    let here : c.args.first ≡ born + line.blocks * q = has.long in
    let frames = has.block in
    let own = c.self.invariant.block in
    let some : 0 < q = let size = c.self.invariant.size.low in omega (arith, frames, own, size) in
    let next = comes_next q some line frames born c.args.first c.args.channels c.args.block.now writer here brings in
    record {
      capacity = c.write.ensures.same.0 ∙ has.capacity;
      block = c.write.ensures.same.1 ∙ has.block;
      birth = has.birth;
      time = let before = has.time in omega (arith, before, frames, own);
      long = let more = ap (λ n. n * q) c.write.ensures.blocks in omega (arith, here, more);
      most = c.max-self-inside.ensures ∙ greatest_with writer.counts (born / q) line.blocks c.args.channels next.count c.self.inside.most has.most
          ∙ ap (λ n. greatest (since writer.counts (born / q) n)) (sym c.write.ensures.blocks);
      keeps = c.write.ensures.keeps (since_birth q born writer) has.keeps next;
    }
