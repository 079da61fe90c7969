use Rattle.std.proofs.Common.{◌≡◌, ◌<◌, ◌+◌, ◌&&◌, length, true, false, ◌∙◌, ap, sym, subst, arith}
use Rattle.std.specs.Prelude.{◌==◌}
use Rattle.std.specs.List.{list_all}
use Rattle.std.proofs.lemmas.Bool.{eqb-true}
use Rattle.std.proofs.lemmas.List.{length-map}
use Rattle.law_base.proofs.Members.{IsIn-filter}
use Rattle.conn_graph.specs.declared.edges.Edge.{Edge}
use Rattle.conn_graph.specs.Edges.{target_node}
use Rattle.conn_graph.specs.Graph.{Connections}
use Rattle.conn_graph.specs.Walks.{in_walk}
use Rattle.cycle_order.specs.Legality.{edges_into, source_settled}
use Rattle.cycle_order.proofs.LegalityLaws.{same_members}
use Rattle.cycle_order.proofs.Looks.{few_distinct}
use Rattle.cycle_order.proofs.WalkLaws.{rest_of, steps_edges, next_is, first_is, none_first, cell_in, edge_in, rest_steps}
use Rattle.cycle_order.proofs.legality.are_sources_settled.Goals as goal

pub is_source_settled-requires : goal.is_source_settled-requires
is_source_settled-requires g c =
    let walk = in_walk c.args.graph.now c.args.end.node.0 in
    let after = c.loop-cell.after in
    let edge : Edge = c.in-Some.edge in
    let first = first_is (rest_of walk after) (c.in-Some.cell, edge) (sym (next_is walk after) ∙ sym c.next_in.ensures.next ∙ c.in-Some.is) in
    let into = (c.next_in.ensures.walk.edges edge).0 (edge_in walk after c.in-Some.cell edge first.0 first.1) in
    let node = eqb-true (target_node edge.to) c.args.end.node.0 (IsIn-filter (λ (x : Edge). target_node x.to == c.args.end.node.0) c.args.graph.now.value.edges edge into).1 in
    subst (λ n. n < length c.args.graph.now.value.nodes) (sym node) c.requires

pub loop-cell-smaller : goal.loop-cell-smaller
loop-cell-smaller g c =
    let walk = in_walk c.args.graph.now c.args.end.node.0 in
    let after = c.loop-cell.after in
    let first = first_is (rest_of walk after) (c.in-Some.cell, c.in-Some.edge) (sym (next_is walk after) ∙ sym c.next_in.ensures.next ∙ c.in-Some.is) in
    let rest = rest_steps walk after c.in-Some.cell c.in-Some.edge first.0 c.next_in.ensures.walk.cells first.1 in
    subst (λ xs. length xs < length (rest_of walk after)) (sym rest) (subst (λ xs. length first.0 < length xs) (sym first.1) (omega arith))

pub loop-cell-preserved : goal.loop-cell-preserved
loop-cell-preserved g c =
    let walk = in_walk c.args.graph.now c.args.end.node.0 in
    let after = c.loop-cell.after in
    let edge : Edge = c.in-Some.edge in
    let test = source_settled c.args.graph.now.value c.args.muted.now c.args.placed.now c.args.end in
    let first = first_is (rest_of walk after) (c.in-Some.cell, edge) (sym (next_is walk after) ∙ sym c.next_in.ensures.next ∙ c.in-Some.is) in
    let rest = rest_steps walk after c.in-Some.cell edge first.0 c.next_in.ensures.walk.cells first.1 in
    let passes : test edge ≡ true = sym c.is_source_settled.ensures ∙ c.if-not-is_source_settled.false in
    record {
      on_walk = cell_in walk after c.in-Some.cell edge first.0 first.1;
      settled =
          ap (λ xs. list_all test (steps_edges xs)) rest
          ∙ ap (λ b. b && list_all test (steps_edges first.0)) (sym passes)
          ∙ ap (λ xs. list_all test (steps_edges xs)) (sym first.1)
          ∙ c.loop-cell.invariant.settled;
      cost =
          let before = c.loop-cell.invariant.cost in
          let one = c.next_in.ensures.cost in
          let number : length (rest_of walk after) ≡ length first.0 + 1 = ap length first.1 ∙ omega arith in
          let left = ap length rest in
          omega arith;
    }

pub returns-then-not-is_source_settled-clause-settled : goal.returns-then-not-is_source_settled-clause-settled
returns-then-not-is_source_settled-clause-settled g c =
    let walk = in_walk c.args.graph.now c.args.end.node.0 in
    let after = c.loop-cell.after in
    let edge : Edge = c.in-Some.edge in
    let graph : Connections = c.args.graph.now.value in
    let test = source_settled graph c.args.muted.now c.args.placed.now c.args.end in
    let first = first_is (rest_of walk after) (c.in-Some.cell, edge) (sym (next_is walk after) ∙ sym c.next_in.ensures.next ∙ c.in-Some.is) in
    let fails : test edge ≡ false = sym c.is_source_settled.ensures ∙ c.if-not-is_source_settled.true in
    ap (λ b. b && list_all test (steps_edges first.0)) (sym fails)
    ∙ ap (λ xs. list_all test (steps_edges xs)) (sym first.1)
    ∙ c.loop-cell.invariant.settled
    ∙ same_members test (steps_edges walk) (edges_into graph c.args.end.node.0) (λ e. (c.next_in.ensures.walk.edges e).0) (λ e. (c.next_in.ensures.walk.edges e).1)

pub returns-clause-settled : goal.returns-clause-settled
returns-clause-settled g c =
    let walk = in_walk c.args.graph.now c.args.end.node.0 in
    let graph : Connections = c.args.graph.now.value in
    let test = source_settled graph c.args.muted.now c.args.placed.now c.args.end in
    let empty = none_first (rest_of walk c.loop-cell.after) (sym (next_is walk c.loop-cell.after) ∙ sym c.next_in.ensures.next ∙ c.in_default.is) in
    sym (ap (λ xs. list_all test (steps_edges xs)) empty) ∙ c.loop-cell.invariant.settled
    ∙ same_members test (steps_edges walk) (edges_into graph c.args.end.node.0) (λ e. (c.next_in.ensures.walk.edges e).0) (λ e. (c.next_in.ensures.walk.edges e).1)

-- the walk has no more connections than lead to the node
pub returns-then-not-is_source_settled-clause-cost : goal.returns-then-not-is_source_settled-clause-cost
returns-then-not-is_source_settled-clause-cost g c =
    let walk = in_walk c.args.graph.now c.args.end.node.0 in
    let before = c.loop-cell.invariant.cost in
    let one = c.next_in.ensures.cost in
    let few = few_distinct (steps_edges walk) (edges_into c.args.graph.now.value c.args.end.node.0) c.next_in.ensures.walk.once (λ e. (c.next_in.ensures.walk.edges e).0) in
    let number = length-map walk (λ step. step.1) in
    omega arith

pub returns-clause-cost : goal.returns-clause-cost
returns-clause-cost g c =
    let walk = in_walk c.args.graph.now c.args.end.node.0 in
    let before = c.loop-cell.invariant.cost in
    let one = c.next_in.ensures.cost in
    let few = few_distinct (steps_edges walk) (edges_into c.args.graph.now.value c.args.end.node.0) c.next_in.ensures.walk.once (λ e. (c.next_in.ensures.walk.edges e).0) in
    let number = length-map walk (λ step. step.1) in
    omega arith
