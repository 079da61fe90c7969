use Rattle.std.proofs.Common.{ℕ, List, sym, subst}
use Rattle.quantum_render.specs.Plans.{PlanView, AreSteady}
use Rattle.quantum_render.specs.Stands.{RendererView}
use Rattle.session.specs.View.{PlansFor}
use Rattle.session.proofs.render_side.render_counted.Goals as goal

pub returns-then-same-clause-standing : goal.returns-then-same-clause-standing
returns-then-same-clause-standing g c =
    let ready : RendererView = c.make_ready.new.renderer in (
      record {
        fitted = c.pass.ensures.fitted;
        steady = subst (λ (p : PlanView). AreSteady c.args.world.now p.order p.muted p.timed c.pass.new.self.counts) (sym c.pass.ensures.plan)
            (subst (λ (ns : List ℕ). AreSteady c.args.world.now ready.order ready.muted ready.timed ns) (sym c.pass.ensures.counts) (c.in_ok-same.ensures.steady c.if-same.true));
      },
      c.pass.ensures.held,
      c.pass.ensures.rests,
    )

pub returns-then-same-clause-planned : goal.returns-then-same-clause-planned
returns-then-same-clause-planned g c = subst (λ (p : PlanView). PlansFor p c.args.world.now.graph) (sym c.pass.ensures.plan) c.make_ready.ensures.planned

pub returns-clause-planned : goal.returns-clause-planned
returns-clause-planned g c = subst (λ (p : PlanView). PlansFor p c.args.world.now.graph) (sym c.pass.ensures.plan) c.make_ready.ensures.planned
