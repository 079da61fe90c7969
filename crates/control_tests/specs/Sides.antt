-- A world, and another one that hears of its changes.
use Rattle.std.specs.Prelude.{◌≡◌, List}
use Rattle.meaning.specs.declared.world.World.{World}
use Rattle.meaning.specs.Validity.{IsValid}
use Rattle.control_msgs.specs.declared.message.Message.{Message}
use Rattle.control_msgs.specs.Messages.{after_messages, AreAcceptedBy}

-- both are valid, and the second one is the first once it has heard all messages
pub record IsFollowed (control : World) (messages : List Message) (render : World) : Type 0 where
  pub valid : IsValid control
  pub render_valid : IsValid render
  pub accepted : AreAcceptedBy render messages
  pub world : after_messages render messages ≡ control
