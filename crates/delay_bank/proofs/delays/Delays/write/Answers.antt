use Rattle.std.proofs.Common.{◌<◌, ◌*◌, length, None, sym, ◌∙◌, ap, arith, subst}
use Rattle.std.proofs.lemmas.List.{get_or_default, length-set}
use Rattle.delay_bank.specs.Banks.{BankView}
use Rattle.delay_bank.proofs.Quanta.{one_of}
use Rattle.delay_bank.proofs.delays.Delays.write.Goals as goal

pub write_one-requires-clause-block : goal.write_one-requires-clause-block
write_one-requires-clause-block c d is =
    let items = c.self.inside.delays.items in
    let there = subst (λ (v : BankView). c.args.node.0 < length v.delays) (sym c.self.view_is) c.requires.there in
    let frames = c.self.invariant.each c.args.node.0 d (get_or_default items c.args.node.0 None c.index_mut.result.now there ∙ sym c.index_mut.ensures.value ∙ is) in
    c.requires.block ∙ ap (λ n. c.args.channels * n) (ap (λ (v : BankView). v.quantum) (sym c.self.view_is) ∙ sym frames)

pub invariant_of-self : goal.invariant_of-self
invariant_of-self c =
    let items = c.self.inside.delays.items in
    let q = c.self.inside.quantum in
    let there = subst (λ (v : BankView). c.args.node.0 < length v.delays) (sym c.self.view_is) c.requires.there in
    record {
      size = c.self.invariant.size;
      within = let same = length-set items c.args.node.0 c.write_one.new.delay in let within = c.self.invariant.within in omega (arith, same, within);
      each = one_of q items c.args.node.0 c.write_one.new.delay there c.self.invariant.each
          (c.write_one.ensures.block q (λ d is. c.self.invariant.each c.args.node.0 d (get_or_default items c.args.node.0 None c.index_mut.result.now there ∙ sym c.index_mut.ensures.value ∙ is)));
    }
