use Rattle.std.proofs.Common.{sym, subst}
use Rattle.std.specs.Prelude.{◌↔◌}
use Rattle.quantum_render.specs.Stands.{RendererView, StandsFor, IsSettled}
use Rattle.quantum_render.proofs.Settled.{settled_with, stands_with}
use Rattle.quantum_render.proofs.renderer.Renderer.look.Goals as goal

pub returns-clause-settled : goal.returns-clause-settled
returns-clause-settled c =
    subst (λ (r : RendererView). IsSettled (record r { rest = c.look.new.self }) c.args.world.now) (sym c.self.view_is) (settled_with c.args.self.now c.look.new.self c.args.world.now c.requires.settled)

pub returns-clause-stands : goal.returns-clause-stands
returns-clause-stands c tape = subst (λ (r : RendererView). StandsFor c.args.self.now tape ↔ StandsFor (record r { rest = c.look.new.self }) tape) (sym c.self.view_is) (stands_with c.args.self.now c.look.new.self tape)
