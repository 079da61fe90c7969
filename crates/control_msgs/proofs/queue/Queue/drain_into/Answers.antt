use Rattle.std.proofs.Common.{◌≡◌, ◌∷◌, suc, sym, ◌∙◌, ap, subst, arith}
use Rattle.conn_graph.proofs.EditLaws.{counts_on}
use Rattle.meaning.specs.World.{plain}
use Rattle.control_msgs.specs.Messages.{QueueView, after_message, after_messages, AreAcceptedBy}
use Rattle.control_msgs.proofs.Hearing.{next_heard}
use Rattle.control_msgs.proofs.queue.Queue.drain_into.Goals as goal

pub loop-message-preserved : goal.loop-message-preserved
loop-message-preserved c =
    let inv = c.loop-message.invariant in
    let first : c.in-Some.message ∷ c.hear.new.self.messages ≡ c.loop-message.self.messages =
    ap (λ (q : QueueView). c.in-Some.message ∷ q.messages) c.in_ok-hear.ensures.ok.0 ∙ sym c.in-Some.ensures.items ∙ ap (λ (q : QueueView). q.messages) c.self.view_is in
    let heard = next_heard (plain c.args.world.now) inv.heard.0 c.args.self.now.messages c.in-Some.message c.hear.new.self.messages (first ∙ inv.heard.1) in
    let world : plain c.hear.new.world ≡ after_message (plain c.loop-message.world) c.in-Some.message = c.in_ok-hear.ensures.ok.1 in
    let accepted = subst (AreAcceptedBy (plain c.loop-message.world)) (sym first) inv.accepted in
    record {
      heard = (suc inv.heard.0, heard.0, world ∙ ap (λ w. after_message w c.in-Some.message) inv.heard.2 ∙ sym heard.1);
      valid = c.hear.ensures.valid;
      graph = counts_on c.args.world.now.graph c.loop-message.world.graph c.hear.new.world.graph inv.graph c.hear.ensures.graph;
      accepted = subst (λ w. AreAcceptedBy w c.hear.new.self.messages) (sym world) accepted.1;
      left = ap (λ w. after_messages w c.hear.new.self.messages) world ∙ ap (after_messages (plain c.loop-message.world)) first ∙ inv.left;
      room = let same = ap (λ (q : QueueView). q.room) c.in_ok-hear.ensures.ok.0 in
          let was = ap (λ (q : QueueView). q.room) c.self.view_is in
          omega (arith, same, was, c.in-Some.ensures.capacity, c.in-Some.ensures.cases, inv.room);
    }

pub returns-in_err-hear-clause-graph : goal.returns-in_err-hear-clause-graph
returns-in_err-hear-clause-graph c = counts_on c.args.world.now.graph c.loop-message.world.graph c.hear.new.world.graph c.loop-message.invariant.graph c.hear.ensures.graph
