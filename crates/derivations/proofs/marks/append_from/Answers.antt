use Rattle.std.proofs.Common.{◌<◌, ◌++◌, ◌∷◌, [], length, Some, ◌∙◌, ap, sym, subst, arith}
use Rattle.std.proofs.lemmas.List.{append-nil, append_assoc}
use Rattle.conn_graph.specs.Walks.{out_walk}
use Rattle.cycle_order.proofs.WalkLaws.{rest_of, steps_edges, next_is, first_is, none_first, cell_in, rest_steps}
use Rattle.derivations.proofs.marks.append_from.Goals as goal

pub loop-cell-smaller : goal.loop-cell-smaller
loop-cell-smaller g c =
    let walk = out_walk c.args.graph.now c.args.node.0 in
    let after = c.loop-cell.after in
    let first = first_is (rest_of walk after) (c.in-Some.cell, c.in-Some.edge) (sym (next_is walk after) ∙ sym c.next_out.ensures.next ∙ c.in-Some.is) in
    let rest = rest_steps walk after c.in-Some.cell c.in-Some.edge first.0 c.next_out.ensures.walk.cells first.1 in
    subst (λ xs. length xs < length (rest_of walk after)) (sym rest) (subst (λ xs. length first.0 < length xs) (sym first.1) (omega arith))

pub loop-cell-preserved : goal.loop-cell-preserved
loop-cell-preserved g c =
    let walk = out_walk c.args.graph.now c.args.node.0 in
    let after = c.loop-cell.after in
    let edges = c.loop-cell.all.items in
    let first = first_is (rest_of walk after) (c.in-Some.cell, c.in-Some.edge) (sym (next_is walk after) ∙ sym c.next_out.ensures.next ∙ c.in-Some.is) in
    let rest = rest_steps walk after c.in-Some.cell c.in-Some.edge first.0 c.next_out.ensures.walk.cells first.1 in
    record {
      on_walk = cell_in walk after c.in-Some.cell c.in-Some.edge first.0 first.1;
      edges =
          ap (λ es. es ++ steps_edges (rest_of walk (Some c.in-Some.cell))) c.in_ok-push.ensures.items
          ∙ ap (λ xs. (edges ++ c.in-Some.edge ∷ []) ++ steps_edges xs) rest
          ∙ append_assoc edges (c.in-Some.edge ∷ []) (steps_edges first.0)
          ∙ ap (λ xs. edges ++ steps_edges xs) (sym first.1)
          ∙ c.loop-cell.invariant.edges;
    }

pub returns : goal.returns
returns g c =
    let walk = out_walk c.args.graph.now c.args.node.0 in
    let after = c.loop-cell.after in
    let empty = none_first (rest_of walk after) (sym (next_is walk after) ∙ sym c.next_out.ensures.next ∙ c.in_default.is) in
    sym (append-nil c.loop-cell.all.items) ∙ ap (λ xs. c.loop-cell.all.items ++ steps_edges xs) (sym empty) ∙ c.loop-cell.invariant.edges
    ∙ ap (λ xs. c.args.all.now.items ++ xs) c.next_out.ensures.walk.edges
