use Rattle.std.proofs.Common.{◌<◌, List, All, sym, ◌∙◌, ap, subst}
use Rattle.std.specs.Prelude.{filter}
use Rattle.std.specs.List.{list_any}
use Rattle.wa_base.specs.declared.graph_names.End.{End}
use Rattle.wa_base.specs.declared.graph_names.NodeId.{NodeId}
use Rattle.conn_graph.specs.Cells.{enters}
use Rattle.cycle_order.specs.Surveys.{delays_in_cycle, muted_ends}
use Rattle.derivations.proofs.Listing.{has_number_of, is_of_node, listed_below, cycle_listed, muted_below, muted_listed}
use Rattle.derivations.proofs.marks.marks_of.Goals as goal

pub marked_nodes-requires : goal.marked_nodes-requires
marked_nodes-requires g c =
    subst (λ (ids : List NodeId). All (λ (id : NodeId). id.0 < c.len-2.result) ids) (sym (c.as_slice-2.ensures ∙ c.in_ok-found.ensures.survey.in_cycle))
    (subst (λ k. All (λ (id : NodeId). id.0 < k) (delays_in_cycle c.args.graph.now.value)) (sym c.len-2.ensures.number) (listed_below c.args.graph.now.value))

pub marked_ends-requires : goal.marked_ends-requires
marked_ends-requires g c =
    subst (λ (es : List End). All (λ (e : End). e.node.0 < c.len-3.result) es) (sym (c.as_slice-3.ensures ∙ c.in_ok-found.ensures.survey.muted))
    (subst (λ k. All (λ (e : End). e.node.0 < k) (muted_ends c.args.graph.now.value)) (sym c.len-3.ensures.number) (muted_below c.args.graph.now.value))

pub returns : goal.returns
returns g c =
    let graph = c.args.graph.now.value in
    record {
      into_each = c.in_ok-into.ensures.length ∙ c.len.ensures.number;
      cycles_each = c.in_ok-cycles.ensures.length ∙ c.len-2.ensures.number;
      muted_each = c.in_ok-muted.ensures.length ∙ c.len-3.ensures.number;
      into = λ n l. c.in_ok-into.ensures.each n (subst (λ k. n < k) (sym c.len.ensures.number) l) ∙ ap (λ es. filter (enters n) es) (c.as_slice.ensures.value ∙ c.in_ok-all.ensures);
      cycles = λ n l.
          c.in_ok-cycles.ensures.each n (subst (λ k. n < k) (sym c.len-2.ensures.number) l)
          ∙ ap (list_any (has_number_of n)) (c.as_slice-2.ensures ∙ c.in_ok-found.ensures.survey.in_cycle)
          ∙ cycle_listed graph n l;
      muted = λ n l.
          c.in_ok-muted.ensures.each n (subst (λ k. n < k) (sym c.len-3.ensures.number) l)
          ∙ ap (list_any (is_of_node n)) (c.as_slice-3.ensures ∙ c.in_ok-found.ensures.survey.muted)
          ∙ muted_listed graph n l;
    }
