use Rattle.std.proofs.Common.{◌∙◌, ap}
use Rattle.meaning.specs.World.{sounding}
use Rattle.session.specs.View.{SessionView}
use Rattle.session.proofs.CatchingUp.{caught_up_sounds}
use Rattle.session.proofs.session.Session.world.Goals as goal

pub returns : goal.returns
returns c = ap sounding c.world.ensures.world ∙ caught_up_sounds c.self.inside.behind c.self.inside.control.world ∙ ap (λ (v : SessionView). sounding v.told.machine.world) c.self.view_is
