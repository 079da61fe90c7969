use Rattle.std.proofs.Common.{◌≡◌, Bool, true, false, not, ◌&&◌, refl, sym, ◌∙◌, ap}
use Rattle.std.specs.Prelude.{◌==◌}
use Rattle.std.specs.List.{list_any}
use Rattle.wa_base.specs.declared.graph_names.NodeId.{NodeId}
use Rattle.conn_graph.specs.Ends.{is_delay}
use Rattle.conn_graph.specs.Graph.{Connections}
use Rattle.cycle_order.proofs.NodeArrows.{is_listed}
use Rattle.cycle_order.proofs.arrows.is_passed_on.Goals as goal

not_both : (a b : Bool) → a ≡ true → not (a && b) ≡ (a && not b)
not_both true b e = refl
not_both false b e = absurd cc

pub returns-then-is_delay : goal.returns-then-is_delay
returns-then-is_delay c =
    let g : Connections = c.args.graph.now.value in
    let i = c.args.node.0 in
    let delays : is_delay g i ≡ true = sym c.is_delay.ensures ∙ c.if-is_delay.true in
    ap not (c.is_listed.ensures ∙ ap (λ ns. list_any (λ (n : NodeId). n.0 == i) ns) c.requires.in_cycle ∙ is_listed g i c.requires.node) ∙ not_both (is_delay g i) _ delays
