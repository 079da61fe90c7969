use Rattle.std.proofs.Common.{ℕ, List, subst}
use Rattle.quantum_render.specs.Plans.{AreSteady}
use Rattle.quantum_render.specs.Stands.{RendererView}
use Rattle.quantum_render.proofs.renderer.Renderer.is_settled.Goals as goal

pub returns : goal.returns
returns c t = record {
  fitted = c.requires.fitted;
  steady = subst (λ (r : RendererView). AreSteady c.args.world.now r.order r.muted r.timed r.counts) c.self.view_is
      (subst (λ (ns : List ℕ). AreSteady c.args.world.now c.self.inside.plan.order c.self.inside.plan.muted c.self.inside.plan.timed ns) c.as_slice.ensures.value (c.are_steady.ensures t));
}
