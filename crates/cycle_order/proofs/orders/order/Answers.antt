use Rattle.std.proofs.Common.{◌<◌, List, All, ◌∙◌, ap, sym, subst}
use Rattle.std.specs.List.{list_any}
use Rattle.wa_base.specs.declared.graph_names.NodeId.{NodeId}
use Rattle.conn_graph.specs.Graph.{Connections}
use Rattle.cycle_order.specs.Surveys.{delays_in_cycle, TellCycles}
use Rattle.cycle_order.proofs.Cycles.{has_number_of, listed_below, listed_tell}
use Rattle.cycle_order.proofs.orders.order.Goals as goal

pub marked-requires : goal.marked-requires
marked-requires g c =
    let graph : Connections = c.args.graph.now.value in
    subst (λ (ids : List NodeId). All (λ (id : NodeId). id.0 < c.len.result) ids) (sym (c.as_slice.ensures ∙ c.requires.in_cycle))
    (subst (λ k. All (λ (id : NodeId). id.0 < k) (delays_in_cycle graph)) (sym c.len.ensures.number) (listed_below graph))

pub end_arrows-requires-clause-cycles : goal.end_arrows-requires-clause-cycles
end_arrows-requires-clause-cycles g c =
    let graph : Connections = c.args.graph.now.value in
    subst (λ ms. TellCycles graph ms) (sym c.as_slice-2.ensures.value)
    (listed_tell graph c.in_ok-cycles.cycles.items (c.in_ok-cycles.ensures.length ∙ c.len.ensures.number)
    (λ n l. c.in_ok-cycles.ensures.each n (subst (λ k. n < k) (sym c.len.ensures.number) l) ∙ ap (λ ids. list_any (has_number_of n) ids) (c.as_slice.ensures ∙ c.requires.in_cycle)))
