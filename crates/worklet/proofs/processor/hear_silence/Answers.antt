use Rattle.std.proofs.Common.{arith}
use Rattle.worklet.proofs.Hearing.{silence_stays}
use Rattle.worklet.proofs.processor.hear_silence.Goals as goal

pub returns-then-is_same : goal.returns-then-is_same
returns-then-is_same c =
    let same = c.is_same.ensures.0 c.if-is_same.true in
    silence_stays c.args.program.now c.args.cells.now c.loop.cells c.frame.new.cells c.loop.counter c.args.frames _ same (omega arith) c.loop.invariant c.frame.ensures
