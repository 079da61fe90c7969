use Rattle.std.proofs.Common.{sym, ◌∙◌, ap}
use Rattle.meaning.specs.World.{plain}
use Rattle.meaning.specs.Changes.{refusal}
use Rattle.control_side.specs.Machine.{Machine}
use Rattle.control_side.specs.Step.{unless}
use Rattle.control_side.proofs.control.Control.edits.Goals as goal

pub returns-in-Some : goal.returns-in-Some
returns-in-Some c =
    c.refused.ensures
    ∙ ap (λ r. unless r c.args.edit) (sym c.in-Some.is ∙ c.refusal.ensures)
    ∙ ap (λ t. unless (refusal (plain c.self.inside.world) t c.args.edit) c.args.edit) c.now.ensures.now
    ∙ ap (λ (m : Machine). unless (refusal m.world m.context.time c.args.edit) c.args.edit) c.self.view_is
