use Rattle.std.proofs.Common.{◌∙◌, sym, subst}
use Rattle.conn_graph.specs.Graph.{Connections}
use Rattle.cycle_order.specs.Surveys.{TellCycles}
use Rattle.cycle_order.proofs.NodeArrows.{cycle_marks_tell}
use Rattle.cycle_order.proofs.surveys.survey.Goals as goal

pub end_arrows-requires-clause-cycles : goal.end_arrows-requires-clause-cycles
end_arrows-requires-clause-cycles g c =
    let graph : Connections = c.args.graph.now.value in
    subst (λ ms. TellCycles graph ms) (sym (c.as_slice.ensures.value ∙ c.in_ok-cycles.ensures)) (cycle_marks_tell graph)
