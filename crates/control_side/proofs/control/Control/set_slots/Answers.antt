use Rattle.std.proofs.Common.{Some, ◌∙◌, sym, ap, arith, subst}
use Rattle.std.specs.Prelude.{length}
use Rattle.meaning.specs.declared.world.World.{World}
use Rattle.meaning.specs.World.{plain}
use Rattle.meaning.specs.Validity.{play_nodes}
use Rattle.meaning.proofs.Valid.{plain_valid, valid_plain}
use Rattle.control_side.specs.Machine.{Machine, machine_of, caught_up}
use Rattle.control_side.specs.Steady.{AreOpen}
use Rattle.control_side.proofs.Stepping.{steady_world}
use Rattle.control_side.proofs.control.Control.set_slots.Goals as goal

pub invariant_of-self : goal.invariant_of-self
invariant_of-self c =
    let old : Machine = machine_of c.self.inside.context c.self.inside.world c.self.inside.book in
    let set = c.set_slots.ensures.set in
    let buffers = ap (λ (x : World). length x.store) set in (
      steady_world old (plain c.set_slots.new.self) (ap (λ (x : World). x.spec) set) (ap (λ (x : World). length x.nodes) set) (omega (arith, buffers)) (ap play_nodes set)
          (plain_valid c.set_slots.new.self (c.set_slots.ensures.valid (valid_plain c.self.inside.world c.self.invariant.0.valid))) c.self.invariant.0,
      subst (AreOpen c.self.inside.open_until) (sym (ap (λ (x : World). x.scheds.items) set)) c.self.invariant.1,
    )

pub returns : goal.returns
returns c =
    let old : Machine = machine_of c.self.inside.context c.self.inside.world c.self.inside.book in
    let set = c.set_slots.ensures.set in
    (λ i. record old { world = set i }) ∙ ap (caught_up (Some c.args.first)) c.self.view_is
