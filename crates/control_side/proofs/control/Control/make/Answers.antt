use Rattle.std.proofs.Common.{◌≡◌, false, ◌∙◌, sym, ap, subst, arith}
use Rattle.std.specs.Prelude.{is_some}
use Rattle.meaning.specs.declared.world.World.{World}
use Rattle.meaning.specs.World.{plain}
use Rattle.meaning.specs.Changes.{creates, edited}
use Rattle.control_side.specs.Machine.{Machine, machine_of}
use Rattle.control_side.specs.Steady.{IsSteady}
use Rattle.control_side.specs.Step.{with_world}
use Rattle.control_side.proofs.Stepping.{steady_edited}
use Rattle.control_side.proofs.control.Control.make.Goals as goal

pub invariant_of-self : goal.invariant_of-self
invariant_of-self c =
    let old : Machine = machine_of c.self.inside.context c.self.inside.world c.self.inside.book in
    let none : creates c.args.edit ≡ false = c.requires.creates ∙ ap is_some c.in-None.is in
    let world : plain c.apply.new.self ≡ edited old.world old.context.time c.args.edit = c.in_ok-apply-in-None.ensures.ok ∙ ap (λ t. edited old.world t c.args.edit) c.now.ensures.now in
    (subst (λ (x : World). IsSteady (with_world old x)) (sym world) (steady_edited old c.args.edit none (rw (← c.self.view_is) at c.requires.accepted) c.self.invariant.0), λ next i d early low. absurd (omega (arith, early)))
