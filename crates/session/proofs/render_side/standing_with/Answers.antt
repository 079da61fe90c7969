use Rattle.session.proofs.Settling.{standing_quiet}
use Rattle.session.proofs.render_side.standing_with.Goals as goal

pub returns-in-Slots : goal.returns-in-Slots
returns-in-Slots c r w is = standing_quiet c.args.before r w c.args.message.now c.in-Slots.is is

pub returns-in-Slots-2 : goal.returns-in-Slots-2
returns-in-Slots-2 c r w is = standing_quiet c.args.before r w c.args.message.now c.in-Slots.is is
