use Rattle.std.proofs.Common.{◌≡◌, sym, subst, ap, ◌∙◌, map, IfOk}
use Rattle.conn_graph.specs.Graph.{Connections}
use Rattle.cycle_order.specs.Reach.{reaches_itself, vertices, IsWithin}
use Rattle.cycle_order.proofs.NodeArrows.{node_arrows_are, nodes_within, marks_are}
use Rattle.cycle_order.proofs.surveys.cycle_marks.Goals as goal

pub on_cycles-requires : goal.on_cycles-requires
on_cycles-requires c =
    let g : Connections = c.args.graph.now.value in
    subst (λ xs. IsWithin xs) (sym (c.in_ok-arrows.ensures ∙ node_arrows_are g c.args.lists.now c.requires.lists)) (nodes_within g c.requires.whole)

pub returns : goal.returns
returns c =
    let g : Connections = c.args.graph.now.value in
    let arrows = c.in_ok-arrows.ensures ∙ node_arrows_are g c.args.lists.now c.requires.lists in
    subst (λ xs. IfOk c.on_cycles.result (λ marks. marks.items ≡ xs)) (ap (λ xs. map (reaches_itself xs) (vertices xs)) arrows ∙ marks_are g c.requires.whole) c.on_cycles.ensures
