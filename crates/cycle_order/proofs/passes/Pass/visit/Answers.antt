use Rattle.std.proofs.Common.{◌≡◌, ◌<◌, length, false, set, true, subst, sym, ◌∙◌}
use Rattle.std.proofs.lemmas.List.{get_or_read}
use Rattle.cycle_order.specs.Passes.{IsPassing}
use Rattle.cycle_order.specs.Reach.{is_marked}
use Rattle.cycle_order.proofs.Finishing.{passing_meets}
use Rattle.cycle_order.proofs.passes.Pass.visit.Goals as goal

pub returns-clause-passing : goal.returns-clause-passing
returns-clause-passing c =
    let marks = c.args.self.now.marks.items in
    let v = c.args.vertex in
    let l : v < length marks = subst (λ n. v < n) (sym c.requires.passing.number) c.requires.vertex in
    let new : is_marked marks v ≡ false = sym (get_or_read marks v c.index.result.now l c.index.ensures false) ∙ c.if-index.false in
    subst (λ xs. IsPassing c.args.arrows.now (set marks v true) c.args.self.now.next.items xs c.args.self.now.order.items) (sym c.in_ok-push.ensures.items)
    (passing_meets c.args.arrows.now marks c.args.self.now.next.items c.args.self.now.stack.items c.args.self.now.order.items v c.requires.passing c.requires.vertex new c.requires.ways)
