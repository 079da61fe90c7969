use Rattle.std.proofs.Common.{None}
use Rattle.io_edge.specs.Paths.{Paths}
use Rattle.control_side.proofs.Called.{Leaves, stepped_leaves, starts_left}
use Rattle.control_side.proofs.Finding.{starts_without}
use Rattle.control_side.proofs.control.Control.step.Goals as goal
use Rattle.control_side.proofs.control.Control.step.Goals.{After-settle}

leaves : (c : After-settle) → Leaves c.args.self.now c.settle.new.self c.args.call.now.op
leaves c = stepped_leaves c.args.self.now c.settle.new.self c.args.call.now c.in_ok-decided.decided c.settle.result c.settle.ensures.ok c.settle.ensures.err c.decide_with.ensures.steady c.in_ok-decided.ensures.fits

pub returns-clause-kept : goal.returns-clause-kept
returns-clause-kept c = (leaves c).kept

pub returns-clause-grows : goal.returns-clause-grows
returns-clause-grows c = (leaves c).grows

pub returns-clause-kept_start : goal.returns-clause-kept_start
returns-clause-kept_start c = (leaves c).kept_start

pub returns-clause-started : goal.returns-clause-started
returns-clause-started c = λ starts.
    let held : Paths = λ path. None in
    starts_left c.args.self.now c.settle.new.self c.args.call.now held c.in_ok-decided.decided c.settle.result c.settle.ensures.ok
    (c.in_ok-decided.ensures.decided held (starts_without held c.args.call.now.op c.args.asset starts)) starts

pub returns-clause-runs : goal.returns-clause-runs
returns-clause-runs c = (leaves c).runs
