use Rattle.std.proofs.Common.{sym, ◌∙◌, ap, subst}
use Rattle.meaning.specs.World.{plain}
use Rattle.control_msgs.specs.Messages.{after_message, after_messages, AreAcceptedBy}
use Rattle.control_msgs.proofs.Hearing.{accepted_more, after_more}
use Rattle.session.specs.View.{IsStanding, SideView, sent}
use Rattle.session.proofs.render_side.RenderSide.post.Goals as goal

pub invariant_of-self : goal.invariant_of-self
invariant_of-self c =
    let accepted = rw (← c.self.view_is) at c.requires.accepted in
    record {
      valid = c.self.invariant.valid;
      plans = c.self.invariant.plans;
      stands =
          subst (IsStanding c.standing_with-self-inside.result c.self.inside.renderer) (sym (ap (after_messages (plain c.self.inside.world)) c.post.ensures.messages ∙ after_more (plain c.self.inside.world) c.self.inside.queue.messages c.args.message))
          (c.standing_with-self-inside.ensures c.self.inside.renderer (after_messages (plain c.self.inside.world) c.self.inside.queue.messages) c.self.invariant.stands);
      accepted = subst (AreAcceptedBy (plain c.self.inside.world)) (sym c.post.ensures.messages) (accepted_more (plain c.self.inside.world) c.self.inside.queue.messages c.args.message c.self.invariant.accepted accepted);
    }

pub returns : goal.returns
returns c = record {
  world = ap (after_messages (plain c.self.inside.world)) c.post.ensures.messages ∙ after_more (plain c.self.inside.world) c.self.inside.queue.messages c.args.message ∙ ap (λ (s : SideView). after_message (sent s) c.args.message) c.self.view_is;
  renderer = ap (λ (s : SideView). s.renderer) c.self.view_is;
  room = c.post.ensures.room ∙ ap (λ (s : SideView). s.room) c.self.view_is;
}
