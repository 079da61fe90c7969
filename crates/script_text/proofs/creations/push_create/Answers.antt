use Rattle.script_text.proofs.MemberSteps.{number_step}
use Rattle.script_text.proofs.creations.push_create.Goals as goal

pub loop-number-preserved : goal.loop-number-preserved
loop-number-preserved c =
    number_step c.args.rate _ c.as_slice-number-items.result.now c.loop-number.number-index _ _ _ _ _ c.loop-number-test.true c.number-item.is c.new-placed.ensures.items (rw c.deref.ensures.value at c.in_ok-add_placed.ensures)
    (c.given_number.ensures c.args.rate) c.loop-number.invariant
