use Rattle.std.proofs.Common.{sym, subst}
use Rattle.conn_graph.specs.Graph.{Connections}
use Rattle.quantum_render.specs.Plans.{PlanView, IsPlanned}
use Rattle.graph_tests.proofs.silence.render.Goals as goal

-- what follows keeps the plan that was prepared
pub returns-clause-plan : goal.returns-clause-plan
returns-clause-plan g c =
    let graph : Connections = c.args.world.now.graph.value in
    let counted = subst (λ (p : PlanView). IsPlanned graph p) (sym c.counts.ensures.plan) c.in_ok-prepare.ensures.plan in
    let grown = subst (λ (p : PlanView). IsPlanned graph p) (sym c.grow.ensures.plan) counted in
    subst (λ (p : PlanView). IsPlanned graph p) (sym c.pass.ensures.plan) grown
