use Rattle.std.proofs.Common.{◌≡◌, Bool, false, length, sym, ◌∙◌, ap}
use Rattle.std.specs.List.{list_any}
use Rattle.conn_graph.specs.Graph.{Connections}
use Rattle.cycle_order.specs.Surveys.{cycle_marks, marked_delays}
use Rattle.cycle_order.proofs.NodeArrows.{length-cycle_marks, marked_delays_are}
use Rattle.cycle_order.proofs.NoCycles.{no_delays, no_muted}
use Rattle.cycle_order.proofs.surveys.survey_by_arrows.Goals as goal

pub returns-then-not-is_any_marked : goal.returns-then-not-is_any_marked
returns-then-not-is_any_marked c =
    let graph : Connections = c.args.graph.now.value in
    let marks = c.as_slice.ensures.value ∙ c.requires.marks in
    let none : list_any (λ (mark : Bool). mark) (cycle_marks graph) ≡ false =
    sym (ap (list_any (λ (mark : Bool). mark)) marks) ∙ sym c.is_any_marked.ensures ∙ c.if-not-is_any_marked.true in
    record { in_cycle = c.nothing.ensures.in_cycle ∙ no_delays graph none; muted = c.nothing.ensures.muted ∙ no_muted graph none }

pub marked_delays-requires : goal.marked_delays-requires
marked_delays-requires c = ap length (c.as_slice-2.ensures.value ∙ c.requires.marks) ∙ length-cycle_marks c.args.graph.now.value

pub returns : goal.returns
returns c =
    let graph : Connections = c.args.graph.now.value in
    record {
      in_cycle = c.in_ok-in_cycle.ensures ∙ ap (marked_delays graph) (c.as_slice-2.ensures.value ∙ c.requires.marks) ∙ marked_delays_are graph;
      muted = c.in_ok-muted.ensures;
    }
