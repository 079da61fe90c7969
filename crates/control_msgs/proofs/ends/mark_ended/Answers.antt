use Rattle.control_msgs.proofs.Marks.{marked_valid}
use Rattle.control_msgs.proofs.ends.mark_ended.Goals as goal

pub returns-clause-valid : goal.returns-clause-valid
returns-clause-valid c = marked_valid c.args.world.now c.mark_each.new.scheds c.args.next c.mark_each.ensures
