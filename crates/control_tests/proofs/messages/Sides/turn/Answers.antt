use Rattle.std.proofs.Common.{◌≡◌, ◌∷◌, ◌++◌, ◌+◌, [], ◌∙◌, ap}
use Rattle.meaning.specs.declared.world.World.{World}
use Rattle.meaning.specs.Validity.{IsValid}
use Rattle.meaning.specs.World.{plain}
use Rattle.meaning.proofs.Valid.{plain_valid, valid_plain}
use Rattle.control_msgs.specs.declared.message.Message.TheVariants.{Slots, Ended}
use Rattle.control_tests.proofs.Following.{follows_more}
use Rattle.control_tests.proofs.messages.Sides.turn.Goals as goal

pub invariant_of-self-2 : goal.invariant_of-self-2
invariant_of-self-2 c =
    let first = c.from-first.result in
    let render : World = plain c.self.inside.render in
    let slots : World = plain c.set_slots.new.self in
    let valid : IsValid c.set_slots.new.self = c.set_slots.ensures.valid (valid_plain c.self.inside.control c.self.invariant.valid) in
    let one = follows_more (plain c.self.inside.control) slots render c.self.inside.queue.messages c.post.new.self.messages (Slots first) c.self.invariant
    (plain_valid c.set_slots.new.self valid) tt c.set_slots.ensures.set (c.post.ensures.messages ∙ ap (λ ms. ms ++ Slots first ∷ []) c.reserve.ensures.messages) in
    follows_more slots (plain c.mark_ended.new.world) render c.post.new.self.messages c.post-2.new.self.messages (Ended (first + 128)) one
    (plain_valid c.mark_ended.new.world (c.mark_ended.ensures.valid valid)) tt c.mark_ended.ensures.marked c.post-2.ensures.messages
