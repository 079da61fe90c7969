-- A world that hears of the changes of another one hears of one more.
use Rattle.std.proofs.Common.{◌≡◌, ◌∷◌, ◌++◌, [], List, sym, ◌∙◌, ap, subst}
use Rattle.meaning.specs.declared.world.World.{World}
use Rattle.meaning.specs.Validity.{IsValid}
use Rattle.control_msgs.specs.declared.message.Message.{Message}
use Rattle.control_msgs.specs.Messages.{after_message, after_messages, IsAcceptedBy, AreAcceptedBy}
use Rattle.control_msgs.proofs.Hearing.{accepted_more, after_more}
use Rattle.control_tests.specs.Sides.{IsFollowed}

pub follows_more : (control new render : World) (old more : List Message) (m : Message) → IsFollowed control old render → IsValid new → IsAcceptedBy control m
    → new ≡ after_message control m → more ≡ old ++ m ∷ [] → IsFollowed new more render
follows_more control new render old more m is valid accepted world messages = record {
  valid = valid;
  render_valid = is.render_valid;
  accepted = subst (AreAcceptedBy render) (sym messages) (accepted_more render old m is.accepted (subst (λ w. IsAcceptedBy w m) (sym is.world) accepted));
  world = ap (after_messages render) messages ∙ after_more render old m ∙ ap (λ w. after_message w m) is.world ∙ sym world;
}
