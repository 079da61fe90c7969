use Rattle.std.proofs.Common.{◌≡◌, ◌≤◌, ℕ, take, drop, length}
use Rattle.conn_graph.specs.Walks.{CountsEdits}
use Rattle.meaning.specs.Validity.{IsValid}
use Rattle.meaning.specs.World.{plain}
use Rattle.control_msgs.specs.Messages.{after_messages, AreAcceptedBy}
use Rattle.control_msgs.proofs.queue.Queue.drain_into.Given as goal

abbrev pub invariant-loop-message : goal.invariant-loop-message
invariant-loop-message l = record {
  heard : (n : ℕ) × (l.self.messages ≡ drop n l.fn.self.messages) × (plain l.world ≡ after_messages (plain l.fn.world) (take n l.fn.self.messages));
  valid : IsValid l.world;
  graph : CountsEdits l.fn.world.graph l.world.graph;
  accepted : AreAcceptedBy (plain l.world) l.self.messages;
  left : after_messages (plain l.world) l.self.messages ≡ after_messages (plain l.fn.world) l.fn.self.messages;
  room : l.fn.self.room ≤ l.self.room;
}

abbrev pub decreases-loop-message : goal.decreases-loop-message
decreases-loop-message l = length l.self.messages
