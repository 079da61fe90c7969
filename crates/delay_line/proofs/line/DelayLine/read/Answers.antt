use Rattle.std.proofs.Common.{◌+◌, ◌<◌, length, arith, subst}
use Rattle.delay_line.specs.Spans.{IsReached}
use Rattle.delay_line.proofs.line.DelayLine.read.Goals as goal

pub read_steady-requires-clause-frames : goal.read_steady-requires-clause-frames
read_steady-requires-clause-frames c k here =
    let there : k < length c.args.delays.now = let long = c.requires.delays in omega arith in
    subst (λ d. IsReached c.args.self.now (c.args.first + k) d) (c.in-Some.ensures k there) (c.requires.frames k here)
