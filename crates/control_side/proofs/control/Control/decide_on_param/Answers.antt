use Rattle.control_side.specs.Step.{decided}
use Rattle.control_side.proofs.control.Control.decide_on_param.Goals as goal

pub returns-in-ConnectParam : goal.returns-in-ConnectParam
unfolding decided
returns-in-ConnectParam c = rw c.in-ConnectParam.is c.connect_param.ensures

pub returns-in-DisconnectParam : goal.returns-in-DisconnectParam
unfolding decided
returns-in-DisconnectParam c = rw c.in-DisconnectParam.is c.disconnect_param.ensures

pub returns-in-ExponentialRampToValueAtTime : goal.returns-in-ExponentialRampToValueAtTime
unfolding decided
returns-in-ExponentialRampToValueAtTime c = rw c.in-ExponentialRampToValueAtTime.is c.leave_out.ensures

pub returns-in-SetTargetAtTime : goal.returns-in-SetTargetAtTime
unfolding decided
returns-in-SetTargetAtTime c = rw c.in-SetTargetAtTime.is c.leave_out-in-SetTargetAtTime.ensures

pub returns-in-ReadValue : goal.returns-in-ReadValue
unfolding decided
returns-in-ReadValue c = rw c.in-ReadValue.is c.read_value.ensures
