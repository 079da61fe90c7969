use Rattle.std.proofs.Common.{◌<◌, filter, ◌∙◌, ap, sym, subst}
use Rattle.std.specs.List.{flat_map}
use Rattle.law_base.specs.Members.{IsIn}
use Rattle.conn_graph.specs.Cells.{enters}
use Rattle.conn_graph.specs.Edges.{target_node}
use Rattle.conn_graph.specs.Graph.{Connections}
use Rattle.cycle_order.specs.Surveys.{TellCycles}
use Rattle.cycle_order.proofs.EdgeLists.{flat_edge_lists}
use Rattle.cycle_order.proofs.NodeArrows.{cycle_marks_tell}
use Rattle.cycle_order.proofs.layouts.lay_out.Goals as goal

pub end_arrows-requires-clause-cycles : goal.end_arrows-requires-clause-cycles
end_arrows-requires-clause-cycles g c =
    let graph : Connections = c.args.graph.now.value in
    subst (λ ms. TellCycles graph ms) (sym (c.as_slice.ensures.value ∙ c.in_ok-cycles.ensures)) (cycle_marks_tell graph)

pub by_target-requires : goal.by_target-requires
by_target-requires g c e h =
    let graph : Connections = c.args.graph.now.value in
    let edges = c.items.ensures ∙ ap (flat_map (λ list. list)) c.in_ok-lists.ensures.lists ∙ flat_edge_lists graph c.edge_lists.ensures.whole in
    let place = c.edge_lists.ensures.whole.places e (subst (λ es. IsIn e es) edges h) in
    subst (λ n. target_node e.to < n) (sym c.len.ensures.number) place.to

pub returns-clause-length : goal.returns-clause-length
returns-clause-length g c = c.in_ok-into.ensures.length ∙ c.len.ensures.number

pub returns-clause-each : goal.returns-clause-each
returns-clause-each g c n l =
    let graph : Connections = c.args.graph.now.value in
    let edges = c.items.ensures ∙ ap (flat_map (λ list. list)) c.in_ok-lists.ensures.lists ∙ flat_edge_lists graph c.edge_lists.ensures.whole in
    c.in_ok-into.ensures.each n (subst (λ k. n < k) (sym c.len.ensures.number) l) ∙ ap (λ es. filter (enters n) es) edges
