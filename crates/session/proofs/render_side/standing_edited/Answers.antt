use Rattle.session.proofs.Settling.{settled_before, standing_apart, standing_before}
use Rattle.session.proofs.render_side.standing_edited.Goals as goal

pub returns-in-Buffers : goal.returns-in-Buffers
returns-in-Buffers c r w now is = standing_apart c.args.before r w now c.args.edit.now c.in-Buffers.edit c.in-Buffers.is is

pub returns-in-Settled : goal.returns-in-Settled
returns-in-Settled c r w now is = settled_before c.args.before r w now c.args.edit.now c.in-Source.is is c.in-Settled.is

pub returns-in-Changed : goal.returns-in-Changed
returns-in-Changed c r w now is = standing_before c.args.before r w now c.args.edit.now c.in-Source.is is c.in-Changed.is
