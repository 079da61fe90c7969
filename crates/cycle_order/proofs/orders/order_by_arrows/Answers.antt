use Rattle.std.proofs.Common.{◌<◌, length, arith, sym, subst, ap, ◌∙◌}
use Rattle.law_base.specs.Members.{IsIn}
use Rattle.conn_graph.specs.Ends.{arrow}
use Rattle.conn_graph.specs.Graph.{Connections}
use Rattle.conn_graph.specs.Orders.{IsLegalOrder}
use Rattle.conn_graph.proofs.EndLaws.{end_is}
use Rattle.cycle_order.specs.Arrows.{vertex_of, leads_to_end, end_arrows}
use Rattle.cycle_order.specs.Choices.{places_from, unmuted_ends, chosen_order}
use Rattle.cycle_order.specs.Counts.{total, AreRising}
use Rattle.cycle_order.specs.Reach.{IsWithin}
use Rattle.cycle_order.proofs.Sums.{total-end_arrows, unmuted_rise}
use Rattle.cycle_order.proofs.EndArrows.{length-end_arrows, vertex_below, ends_within, arrows_agree}
use Rattle.cycle_order.proofs.LegalChoices.{unmuted_in, chosen_order_legal}
use Rattle.cycle_order.proofs.Placing.{places_agree}
use Rattle.cycle_order.proofs.orders.order_by_arrows.Goals as goal

pub place_all-requires-clause-within : goal.place_all-requires-clause-within
place_all-requires-clause-within c =
    let graph : Connections = c.args.graph.now.value in
    subst (λ xs. IsWithin xs) (sym (c.requires.arrows)) (ends_within graph c.requires.whole)

pub place_all-requires-clause-vertices : goal.place_all-requires-clause-vertices
place_all-requires-clause-vertices c =
    let graph : Connections = c.args.graph.now.value in
    let number = ap length (c.requires.arrows) ∙ length-end_arrows graph in
    let nodes = c.requires.whole.nodes in
    omega arith

pub place_all-requires-clause-few : goal.place_all-requires-clause-few
place_all-requires-clause-few c =
    let graph : Connections = c.args.graph.now.value in
    let all = ap total (c.requires.arrows) in
    let few = total-end_arrows graph in
    let nodes = c.requires.whole.nodes in
    let edges = c.requires.whole.few in
    omega arith

pub place_all-requires-clause-rising : goal.place_all-requires-clause-rising
place_all-requires-clause-rising c = subst (λ es. AreRising 0 es) (sym (c.as_slice.ensures.value ∙ c.in_ok-unmuted.ensures)) (unmuted_rise c.args.graph.now.value)

pub place_all-requires-clause-ends : goal.place_all-requires-clause-ends
place_all-requires-clause-ends c e h =
    let graph : Connections = c.args.graph.now.value in
    let in_ends = (unmuted_in graph e (subst (λ es. IsIn e es) (c.as_slice.ensures.value ∙ c.in_ok-unmuted.ensures) h)).0 in
    subst (λ xs. vertex_of e < length xs) (sym (c.requires.arrows)) (vertex_below graph e (end_is graph e in_ends).0)

pub returns-clause-tie : goal.returns-clause-tie
unfolding chosen_order
returns-clause-tie c =
    let graph : Connections = c.args.graph.now.value in
    let tie = c.args.tie in
    let unmuted = unmuted_ends graph in
    let arrows = c.requires.arrows in
    c.in_ok-ends.ensures
    ∙ ap (λ es. places_from (leads_to_end c.args.arrows.now) tie (length es) es) (c.as_slice.ensures.value ∙ c.in_ok-unmuted.ensures)
    ∙ ap (λ xs. places_from (leads_to_end xs) tie (length unmuted) unmuted) arrows
    ∙ places_agree (leads_to_end (end_arrows graph)) (arrow graph) tie (length unmuted) unmuted (λ a b in_a in_b. arrows_agree graph c.requires.whole a b (unmuted_in graph a in_a).0 (unmuted_in graph b in_b).0)

pub returns-clause-legal : goal.returns-clause-legal
returns-clause-legal c = subst (λ es. IsLegalOrder c.args.graph.now.value es) (sym (returns-clause-tie c)) (chosen_order_legal c.args.graph.now.value c.args.tie)
