use Rattle.std.proofs.Common.{refl}
use Rattle.session.proofs.Sides.{caught_up_already, catches_up_by}
use Rattle.session.proofs.session.catch_up.Goals as goal

pub returns-in_default-clause-ok : goal.returns-in_default-clause-ok
returns-in_default-clause-ok c = rw c.in_default.is (refl, refl, caught_up_already c.args.side.now)

pub returns-clause-ok : goal.returns-clause-ok
returns-clause-ok c = rw c.in-Some.is (refl, c.set_slots.ensures, catches_up_by c.in-Some.first c.args.side.now c.reserve.new.side c.post.new.side c.in_ok-reserve.ensures.ok c.post.ensures)
