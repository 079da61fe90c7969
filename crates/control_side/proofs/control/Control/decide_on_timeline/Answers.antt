use Rattle.std.proofs.Common.{rules, w32, w64, SFits}
use Rattle.std.proofs.lemmas.Int.{to_z-of_z}
use Rattle.control_side.specs.Step.{decided}
use Rattle.control_side.proofs.control.Control.decide_on_timeline.Goals as goal

pub returns-in-SetValue : goal.returns-in-SetValue
unfolding decided
returns-in-SetValue c =
    let value : SFits w32 c.in-SetValue.value = search rules in
    rw c.in-SetValue.is (rw (to_z-of_z w32 c.in-SetValue.value value) at c.edit_param.ensures)

pub returns-in-SetValueAtTime : goal.returns-in-SetValueAtTime
unfolding decided
returns-in-SetValueAtTime c =
    let value : SFits w32 c.in-SetValueAtTime.value = search rules in
    let time : SFits w64 c.in-SetValueAtTime.time = search rules in
    rw c.in-SetValueAtTime.is (rw (to_z-of_z w32 c.in-SetValueAtTime.value value, to_z-of_z w64 c.in-SetValueAtTime.time time) at c.edit_param-in-SetValueAtTime.ensures)

pub returns-in-LinearRampToValueAtTime : goal.returns-in-LinearRampToValueAtTime
unfolding decided
returns-in-LinearRampToValueAtTime c =
    let value : SFits w32 c.in-LinearRampToValueAtTime.value = search rules in
    let time : SFits w64 c.in-LinearRampToValueAtTime.time = search rules in
    rw c.in-LinearRampToValueAtTime.is (rw (to_z-of_z w32 c.in-LinearRampToValueAtTime.value value, to_z-of_z w64 c.in-LinearRampToValueAtTime.time time) at c.edit_param-in-LinearRampToValueAtTime.ensures)

pub returns-in-CancelScheduledValues : goal.returns-in-CancelScheduledValues
unfolding decided
returns-in-CancelScheduledValues c =
    let time : SFits w64 c.in-CancelScheduledValues.time = search rules in
    rw c.in-CancelScheduledValues.is (rw (to_z-of_z w64 c.in-CancelScheduledValues.time time) at c.edit_param-in-CancelScheduledValues.ensures)

pub returns-in-CancelAndHoldAtTime : goal.returns-in-CancelAndHoldAtTime
unfolding decided
returns-in-CancelAndHoldAtTime c =
    let time : SFits w64 c.in-CancelAndHoldAtTime.time = search rules in
    rw c.in-CancelAndHoldAtTime.is (rw (to_z-of_z w64 c.in-CancelAndHoldAtTime.time time) at c.edit_param-in-CancelAndHoldAtTime.ensures)

pub returns-in-SetValueCurveAtTime : goal.returns-in-SetValueCurveAtTime
unfolding decided
returns-in-SetValueCurveAtTime c =
    let time : SFits w64 c.in-SetValueCurveAtTime.time = search rules in
    let duration : SFits w64 c.in-SetValueCurveAtTime.duration = search rules in
    rw c.in-SetValueCurveAtTime.is (rw (to_z-of_z w64 c.in-SetValueCurveAtTime.time time, to_z-of_z w64 c.in-SetValueCurveAtTime.duration duration) at c.edit_curve.ensures)
