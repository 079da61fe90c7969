use Rattle.conn_graph.proofs.EditLaws.{counts_none}
use Rattle.meaning.proofs.Valid.{plain_valid, valid_plain}
use Rattle.control_msgs.proofs.message.Message.apply_to.Goals as goal

pub returns-in-Change-clause-valid : goal.returns-in-Change-clause-valid
returns-in-Change-clause-valid c = valid_plain c.apply.new.self (c.apply.ensures.grows.valid (plain_valid c.args.world.now c.requires.valid))

pub returns-in-Slots-clause-graph : goal.returns-in-Slots-clause-graph
returns-in-Slots-clause-graph c = counts_none c.args.world.now.graph c.set_slots.new.self.graph c.set_slots.ensures.graph

pub returns-in-Ended-clause-graph : goal.returns-in-Ended-clause-graph
returns-in-Ended-clause-graph c = counts_none c.args.world.now.graph c.mark_ended.new.world.graph c.mark_ended.ensures.graph
