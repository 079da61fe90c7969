use Rattle.std.proofs.Common.{◌+◌, ◌<◌, length, arith, subst}
use Rattle.delay_line.specs.Spans.{IsReached}
use Rattle.delay_bank.proofs.delay.read_line.Goals as goal

pub read_steady-requires-clause-frames : goal.read_steady-requires-clause-frames
read_steady-requires-clause-frames c k here =
    let there : k < length c.args.asked.delays.now = let long = c.requires.delays in omega arith in
    subst (λ d. IsReached c.args.line.now (c.args.since + k) d) (c.in-Steady.ensures k there) (c.requires.frames k here)
