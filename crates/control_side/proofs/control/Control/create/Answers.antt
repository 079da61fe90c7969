use Rattle.std.proofs.Common.{◌≡◌, ap, subst, sym, ◌∙◌, arith}
use Rattle.name_book.specs.Book.{bound, first_named}
use Rattle.meaning.specs.Changes.{Accepts, edited}
use Rattle.control_side.specs.Machine.{Machine, IsAccepted, machine_of}
use Rattle.control_side.specs.Steady.{IsSteady}
use Rattle.control_side.specs.Step.{created_by}
use Rattle.control_side.proofs.NewNames.{is_not_destination}
use Rattle.control_side.proofs.Stepping.{named_machine, steady_named}
use Rattle.control_side.proofs.control.Control.create.Goals as goal

pub reserve-requires : goal.reserve-requires
reserve-requires c = is_not_destination c.args.name.now c.requires.name

pub bind-requires : goal.bind-requires
bind-requires c = is_not_destination c.args.name.now c.requires.name

pub invariant_of-self-2 : goal.invariant_of-self-2
invariant_of-self-2 c =
    let old : Machine = machine_of c.self.inside.context c.self.inside.world c.self.inside.book in
    let edit = c.args.change.now.edit in
    let object : c.created_by-object.result ≡ created_by old edit = c.created_by-object.ensures ∙ ap (λ m. created_by m edit) (sym c.self.view_is) in
    let bindings : c.bind.new.self.bindings ≡ bound old.bindings c.args.name.now (created_by old edit) =
    c.in_ok-bind.ensures.bindings ∙ ap (λ bs. bound bs c.args.name.now c.created_by-object.result) c.reserve.ensures.bindings ∙ ap (λ o. bound old.bindings c.args.name.now o) object in
    let first_names : c.bind.new.self.first_names ≡ first_named old.first_names (created_by old edit) c.args.name.now =
    c.in_ok-bind.ensures.first_names ∙ ap (λ ns. first_named ns c.created_by-object.result c.args.name.now) c.reserve.ensures.first_names ∙ ap (λ o. first_named old.first_names o c.args.name.now) object in
    let time : c.args.change.now.time ≡ old.context.time = c.requires.time ∙ ap (λ (m : Machine). m.context.time) (sym c.self.view_is) in
    let accepts = rw (← c.self.view_is) at c.requires.accepted in
    let accepted : IsAccepted old edit = subst (λ t. Accepts old.world (record { time = t; edit = edit })) time accepts in
    let world = c.in_ok-apply.ensures.ok ∙ ap (λ t. edited old.world t edit) time in
    (subst IsSteady (sym (named_machine old c.args.name.now edit _ _ _ world bindings first_names)) (steady_named old edit c.args.name.now c.requires.creates accepted c.self.invariant.0), λ next i d early low. absurd (omega (arith, early)))
