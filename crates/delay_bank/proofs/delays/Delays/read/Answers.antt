use Rattle.std.proofs.Common.{◌≡◌, ◌*◌, slice_index_or, None, sym, ◌∙◌, ap, subst}
use Rattle.delay_bank.specs.Banks.{BankView}
use Rattle.delay_bank.proofs.delays.Delays.read.Goals as goal

-- the delay is for quanta of as many frames as all
frames : (c : goal.After-read-arg-1) → c.in-Some-Some.delay.line.block ≡ c.args.self.now.quantum
frames c =
    let found = subst (λ xs. slice_index_or xs c.args.node.0 None ≡ c.in-Some-Some.field-0.now) c.deref.ensures.value (sym (c.in-Some-Some.ensures.lookup.3.1 None)) in
    c.self.invariant.each c.args.node.0 c.in-Some-Some.delay (found ∙ c.in-Some-Some.field-0-is)
    ∙ ap (λ (v : BankView). v.quantum) c.self.view_is

pub read-requires-clause-out : goal.read-requires-clause-out
read-requires-clause-out c = c.requires.out ∙ ap (λ n. c.args.asked.channels * n) (sym (frames c))

pub read-requires-clause-delays : goal.read-requires-clause-delays
read-requires-clause-delays c = c.requires.delays ∙ sym (frames c)
