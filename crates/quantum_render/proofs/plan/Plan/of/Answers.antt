use Rattle.std.proofs.Common.{ℕ, ◌≡◌, ◌<◌, List, [], length, slice_index_or, All, Bool, false, sym, ◌∙◌, ap, subst}
use Rattle.std.specs.Prelude.{filter}
use Rattle.wa_base.specs.declared.graph_names.End.{End}
use Rattle.law_base.specs.Members.{IsIn}
use Rattle.law_base.proofs.Members.{IsIn-filter, IsIn-filter_from}
use Rattle.conn_graph.specs.declared.edges.Edge.{Edge}
use Rattle.conn_graph.specs.Cells.{enters}
use Rattle.conn_graph.specs.Ends.{ends, muted}
use Rattle.conn_graph.specs.Graph.{Connections}
use Rattle.conn_graph.specs.Orders.{IsLegalOrder}
use Rattle.cycle_order.specs.Surveys.{muted_ends, delays_in_cycle}
use Rattle.cycle_order.proofs.Cycles.{has_number_of, listed_below, cycle_listed}
use Rattle.wa_base.specs.declared.graph_names.NodeId.{NodeId}
use Rattle.std.specs.List.{list_any}
use Rattle.quantum_render.specs.Plans.{IsPlanOf, AreCycles}
use Rattle.quantum_render.proofs.plan.Plan.of.Goals as goal

plan_is : (g : Connections) (order mute : List End) (sources : List (List Edge)) → IsLegalOrder g order → mute ≡ muted_ends g → length sources ≡ length g.nodes
    → ((n : ℕ) → n < length g.nodes → slice_index_or sources n [] ≡ filter (enters n) g.edges) → IsPlanOf g order mute sources
unfolding muted_ends
plan_is g order mute sources legal marks nodes each = record {
  legal = legal;
  all = λ d in_d m. subst (IsIn d) (sym marks) (IsIn-filter_from (muted g) (ends g) d in_d m);
  only = λ d in_d. IsIn-filter (muted g) (ends g) d (subst (IsIn d) marks in_d);
  nodes = nodes;
  each = λ n l. each n (subst (λ k. n < k) nodes l);
}

cycles_are : (g : Connections) (listed : List NodeId) (marks : List Bool) → listed ≡ delays_in_cycle g → length marks ≡ length g.nodes → ((n : ℕ) → n < length g.nodes → slice_index_or marks n false ≡ list_any (has_number_of n) listed) → AreCycles g marks
cycles_are g listed marks is long each = record {
  count = long;
  marked = λ n l. each n l ∙ ap (list_any (has_number_of n)) is ∙ cycle_listed g n l;
}

pub returns-clause-plan : goal.returns-clause-plan
returns-clause-plan g c =
    let laid = c.in_ok-marks.ensures in
    record {
      plan = plan_is c.args.world.now.graph.value _ _ _ laid.legal laid.survey.muted laid.length laid.each;
      cycles = cycles_are c.args.world.now.graph.value _ _ (c.as_slice.ensures ∙ laid.survey.in_cycle) (c.in_ok-cycles.ensures.length ∙ c.len.ensures.number) (λ n l. c.in_ok-cycles.ensures.each n (subst (λ k. n < k) (sym c.len.ensures.number) l));
      order = laid.tie;
    }

pub marked-requires : goal.marked-requires
marked-requires g c =
    subst (λ (ids : List NodeId). All (λ (id : NodeId). id.0 < c.len.result) ids) (sym (c.as_slice.ensures ∙ c.in_ok-marks.ensures.survey.in_cycle))
    (subst (λ k. All (λ (id : NodeId). id.0 < k) (delays_in_cycle c.args.world.now.graph.value)) (sym c.len.ensures.number) (listed_below c.args.world.now.graph.value))
