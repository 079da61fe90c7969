use Rattle.control_side.specs.Step.{decided}
use Rattle.control_side.proofs.control.Control.decide_on_node.Goals as goal

pub returns-in-Connect : goal.returns-in-Connect
unfolding decided
returns-in-Connect c = rw c.in-Connect.is c.connect.ensures

pub returns-in-SetChannelCount : goal.returns-in-SetChannelCount
unfolding decided
returns-in-SetChannelCount c = rw c.in-SetChannelCount.is c.set_attribute.ensures

pub returns-in-SetChannelCountMode : goal.returns-in-SetChannelCountMode
unfolding decided
returns-in-SetChannelCountMode c = rw c.in-SetChannelCountMode.is c.set_attribute-in-SetChannelCountMode.ensures

pub returns-in-SetChannelInterpretation : goal.returns-in-SetChannelInterpretation
unfolding decided
returns-in-SetChannelInterpretation c = rw c.in-SetChannelInterpretation.is c.set_attribute-in-SetChannelInterpretation.ensures
