use Rattle.std.proofs.Common.{subst, arith}
use Rattle.cycle_order.specs.Passes.{IsPassing}
use Rattle.cycle_order.proofs.Finishing.{all_finished}
use Rattle.cycle_order.proofs.passes.finish_order.Goals as goal

pub returns : goal.returns
returns c =
    let arrows = c.args.arrows.now in
    let pass = c.loop-start.pass in
    let past = c.loop-start-test.false in
    all_finished arrows pass.marks.items pass.next.items pass.order.items
    (subst (λ xs. IsPassing arrows pass.marks.items pass.next.items xs pass.order.items) c.loop-start.invariant.empty c.loop-start.invariant.passing)
    (λ v l. c.loop-start.invariant.met v (omega arith))
