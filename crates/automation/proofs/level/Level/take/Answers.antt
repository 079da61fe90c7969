use Rattle.std.proofs.Common.{◌+◌, ◌≤◌, length, arith}
use Rattle.automation.proofs.Looks.{within_more}
use Rattle.automation.proofs.level.Level.take.Goals as goal
use Rattle.automation.proofs.level.Level.take.Goals.{in-A, in-K}

pub returns-clause-cost : goal.returns-clause-cost
returns-clause-cost g c =
    let few : c.match-param.count ≤ c.args.frames = elim c.match-param.branch [ in-A w ↦ omega (arith, w.count-is, c.requires.room) | in-K w ↦ omega (arith, w.count-is, c.requires.quantum.low) ] in
    let long : length c.draw-drawn.new.out ≤ c.args.frames = omega (arith, few, c.draw-drawn.auto.out, c.deref_mut.ensures.len) in
    let more = within_more c.args.first (c.args.first + length c.draw-drawn.new.out) (c.args.first + c.args.frames) c.args.param.now.line.events (omega (arith, long)) in
    omega (arith, c.draw-drawn.ensures.cost, more)
