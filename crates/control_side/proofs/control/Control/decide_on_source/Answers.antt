use Rattle.std.proofs.Common.{rules, w64, SFits}
use Rattle.std.proofs.lemmas.Int.{to_z-of_z}
use Rattle.control_side.specs.Step.{decided}
use Rattle.control_side.proofs.control.Control.decide_on_source.Goals as goal

pub returns-in-Start : goal.returns-in-Start
unfolding decided
returns-in-Start c =
    let when : SFits w64 c.in-Start.when = search rules in
    let offset : SFits w64 c.in-Start.offset = search rules in
    rw c.in-Start.is (rw (to_z-of_z w64 c.in-Start.when when, to_z-of_z w64 c.in-Start.offset offset) at c.start_source.ensures)

pub returns-in-Stop : goal.returns-in-Stop
unfolding decided
returns-in-Stop c =
    let when : SFits w64 c.in-Stop.when = search rules in
    rw c.in-Stop.is (rw (to_z-of_z w64 c.in-Stop.when when) at c.stop_source.ensures)

pub returns-in-SetBuffer : goal.returns-in-SetBuffer
unfolding decided
returns-in-SetBuffer c = rw c.in-SetBuffer.is c.set_buffer.ensures

pub returns-in-SetLoop : goal.returns-in-SetLoop
unfolding decided
returns-in-SetLoop c = rw c.in-SetLoop.is c.set_loop.ensures

pub returns-in-SetLoopStart : goal.returns-in-SetLoopStart
unfolding decided
returns-in-SetLoopStart c =
    let value : SFits w64 c.in-SetLoopStart.value = search rules in
    rw c.in-SetLoopStart.is (rw (to_z-of_z w64 c.in-SetLoopStart.value value) at c.set_loop-in-SetLoopStart.ensures)

pub returns-in-SetLoopEnd : goal.returns-in-SetLoopEnd
unfolding decided
returns-in-SetLoopEnd c =
    let value : SFits w64 c.in-SetLoopEnd.value = search rules in
    rw c.in-SetLoopEnd.is (rw (to_z-of_z w64 c.in-SetLoopEnd.value value) at c.set_loop-in-SetLoopEnd.ensures)
