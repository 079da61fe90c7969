use Rattle.std.proofs.Common.{rules, w32, SFits}
use Rattle.std.proofs.lemmas.Int.{to_z-of_z}
use Rattle.control_side.specs.Step.{decided}
use Rattle.control_side.proofs.control.Control.decide_creation.Goals as goal

pub returns-in-CreateDelay : goal.returns-in-CreateDelay
unfolding decided
returns-in-CreateDelay c =
    let longest : SFits w32 c.in-CreateDelay.max_delay_time = search rules in
    let time : SFits w32 c.in-CreateDelay.delay_time = search rules in
    rw c.in-CreateDelay.is (rw (to_z-of_z w32 c.in-CreateDelay.max_delay_time longest, to_z-of_z w32 c.in-CreateDelay.delay_time time) at c.create_delay.ensures)
