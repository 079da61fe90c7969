use Rattle.std.proofs.Common.{rules, w32, w64, SFits}
use Rattle.std.proofs.lemmas.Int.{to_z-of_z}
use Rattle.control_side.specs.Step.{decided}
use Rattle.control_side.proofs.control.Control.decide_on_buffer.Goals as goal

pub returns-in-CreateBufferSource : goal.returns-in-CreateBufferSource
unfolding decided
returns-in-CreateBufferSource c =
    let first : SFits w64 c.in-CreateBufferSource.loop_start = search rules in
    let end : SFits w64 c.in-CreateBufferSource.loop_end = search rules in
    let rate : SFits w32 c.in-CreateBufferSource.playback_rate = search rules in
    rw c.in-CreateBufferSource.is (rw (to_z-of_z w64 c.in-CreateBufferSource.loop_start first, to_z-of_z w64 c.in-CreateBufferSource.loop_end end, to_z-of_z w32 c.in-CreateBufferSource.playback_rate rate) at c.create_source.ensures)

pub returns-in-CreateBuffer : goal.returns-in-CreateBuffer
unfolding decided
returns-in-CreateBuffer c = rw c.in-CreateBuffer.is c.create_buffer.ensures

pub returns-in-CopyToChannel : goal.returns-in-CopyToChannel
unfolding decided
returns-in-CopyToChannel c = rw c.in-CopyToChannel.is c.write.ensures
