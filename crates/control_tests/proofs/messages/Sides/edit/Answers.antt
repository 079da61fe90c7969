use Rattle.std.proofs.Common.{◌≡◌, ◌∷◌, ◌++◌, [], sym, ◌∙◌, ap, arith}
use Rattle.meaning.specs.declared.change.Change.{Change}
use Rattle.meaning.specs.declared.world.World.{World}
use Rattle.meaning.specs.Changes.{Accepts}
use Rattle.meaning.specs.World.{plain}
use Rattle.control_msgs.specs.declared.message.Message.TheVariants.{Change as of_change}
use Rattle.control_tests.proofs.Following.{follows_more}
use Rattle.control_tests.proofs.messages.Sides.edit.Goals as goal

pub invariant_of-self-2 : goal.invariant_of-self-2
invariant_of-self-2 c =
    let control : World = plain c.self.inside.control in
    let change : Change = record { time = c.from-time.result; edit = c.args.edit } in
    let accepts : Accepts control change = record {
      time = omega (arith, c.ranges.time.fits, c.from-time.ensures);
      named = rw (← c.self.view_is) at c.requires;
      accepted = sym c.refusal.ensures ∙ c.in_default.is;
    } in
    follows_more control (plain c.apply.new.self) (plain c.self.inside.render) c.self.inside.queue.messages c.post.new.self.messages (of_change change) c.self.invariant
    (c.apply.ensures.grows.valid c.self.invariant.valid) accepts c.in_ok-apply.ensures.ok (c.post.ensures.messages ∙ ap (λ ms. ms ++ of_change change ∷ []) c.reserve.ensures.messages)
