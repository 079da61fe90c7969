use Rattle.std.proofs.Common.{rules, List, ◌≡◌, ◌<◌, ◌∙◌, sym, ap, subst}
use Rattle.wa_base.specs.declared.graph_names.End.{End}
use Rattle.law_base.specs.Members.{IsIn}
use Rattle.conn_graph.specs.declared.edges.Edge.{Edge}
use Rattle.conn_graph.specs.Ends.{ends}
use Rattle.meaning.specs.declared.world.World.{World}
use Rattle.quantum_blocks.specs.Connections.{into}
use Rattle.quantum_render.specs.Sites.{SiteView}
use Rattle.quantum_render.specs.Plans.{PlanView, IsPlan}
use Rattle.quantum_blocks.proofs.Sources.{same_nodes, end_low}
use Rattle.quantum_render.proofs.plan.Plan.site.Goals as goal

-- the plan and the end by the fields of a plan
abbrev IsOf : PlanView → World → End → Type 0
IsOf p w e = IsPlan w p.order p.muted p.into × IsIn e (ends w.graph.value)

facts : (p p' : PlanView) (w : World) (e : End) → p' ≡ p → IsOf p w e → IsOf p' w e
facts p p' w e plan is = subst (λ (x : PlanView). IsOf x w e) (sym plan) is

pub part-requires : goal.part-requires
part-requires c =
    let w : World = c.args.quantum.now.world.now in
    let is = facts _ _ w c.args.end c.self.view_is (c.requires.plan, c.requires.there) in
    let node = subst (λ n. c.args.end.node.0 < n) (sym (is.0.nodes ∙ same_nodes w c.requires.quantum.valid)) (end_low w c.requires.quantum.valid c.args.end is.1) in
    search rules

pub invariant_of-result : goal.invariant_of-result
invariant_of-result c =
    let w : World = c.args.quantum.now.world.now in
    let is = facts _ _ w c.args.end c.self.view_is (c.requires.plan, c.requires.there) in
    let node = subst (λ n. c.args.end.node.0 < n) (sym (is.0.nodes ∙ same_nodes w c.requires.quantum.valid)) (end_low w c.requires.quantum.valid c.args.end is.1) in (
      record {
        quantum = c.requires.quantum;
        there = is.1;
        into = c.part.ensures ∙ is.0.each c.args.end.node.0 node;
      },
      c.requires.cycles,
    )

pub returns : goal.returns
returns c =
    let w : World = c.args.quantum.now.world.now in
    let is = facts _ _ w c.args.end c.self.view_is (c.requires.plan, c.requires.there) in
    let node = subst (λ n. c.args.end.node.0 < n) (sym (is.0.nodes ∙ same_nodes w c.requires.quantum.valid)) (end_low w c.requires.quantum.valid c.args.end is.1) in
    let leads : c.part.result.now ≡ into w.graph.value c.args.end.node.0 =
    c.part.ensures ∙ is.0.each c.args.end.node.0 node in
    ap (λ (edges : List Edge). let s : SiteView = record { world = w; end = c.args.end; into = edges; counts = c.args.quantum.now.counts.now; levels = c.args.quantum.now.levels.now; first = c.args.quantum.now.first } in s) leads
