use Rattle.std.proofs.Common.{sym, subst}
use Rattle.meaning.specs.World.{plain}
use Rattle.meaning.proofs.Valid.{plain_valid}
use Rattle.control_msgs.specs.Messages.{AreAcceptedBy}
use Rattle.quantum_render.specs.Stands.{plan_of}
use Rattle.session.proofs.Planning.{plans_none}
use Rattle.session.proofs.render_side.RenderSide.new.Goals as goal

pub invariant_of-result : goal.invariant_of-result
invariant_of-result c = record {
  valid = plain_valid c.in_ok-world.world c.in_ok-world.ensures.valid;
  accepted = subst (AreAcceptedBy (plain c.in_ok-world.world)) (sym c.new-3.ensures) tt;
  stands = tt;
  plans = plans_none (plan_of c.in_ok-renderer.renderer) c.in_ok-world.world.graph c.in_ok-renderer.ensures.planned;
}
