use Rattle.std.proofs.Common.{◌≡◌, ◌<◌, ◌-◌, ◌++◌, ◌∷◌, [], length, sym, ◌∙◌, ap, subst, arith}
use Rattle.std.proofs.lemmas.List.FromFn.{map-range_with_len_more}
use Rattle.cycle_order.specs.Arrows.{edges_from}
use Rattle.cycle_order.specs.Parts.{parts_of, AreBounds}
use Rattle.cycle_order.proofs.Bounds.{no_bounds, bounds_closed, parts_closed}
use Rattle.cycle_order.proofs.Sums.{leaving_le, leaving_next}
use Rattle.cycle_order.proofs.arrows.edge_lists.Goals as goal

pub loop-node-init : goal.loop-node-init
loop-node-init g c =
    let graph = c.args.graph.now.value in
    let all = leaving_le graph.edges 0 (length graph.nodes - 0) in
    let bounds = c.reserve.ensures.items ∙ c.in_ok-bounds.ensures.items in
    record {
      bounds = subst (λ n. AreBounds c.reserve.new.self.items n) (sym (ap length c.new-edges.ensures.items)) (no_bounds c.reserve.new.self.items bounds);
      lists = ap (λ bs. parts_of bs c.new-edges.result.items) bounds;
      cost = omega arith;
    }

pub loop-node-preserved : goal.loop-node-preserved
loop-node-preserved g c =
    let node = c.loop-node.node in
    let graph = c.args.graph.now.value in
    let grown = c.in_ok-append_edges_from.ensures.edges in
    let end : c.len.result ≡ length c.append_edges_from.new.edges.items = let own = c.len.ensures in let same = c.append_edges_from.new.edges.ok.0 in omega arith in
    let closed = c.in_ok-push.ensures.items ∙ ap (λ n. c.loop-node.bounds.items ++ n ∷ []) end in
    let before = c.loop-node.invariant.bounds in
    record {
      bounds = bounds_closed c.loop-node.bounds.items c.loop-node.edges.items (edges_from graph node) _ _ grown closed before;
      lists =
          parts_closed c.loop-node.bounds.items c.loop-node.edges.items (edges_from graph node) _ _ grown closed before
          ∙ ap (λ ls. ls ++ edges_from graph node ∷ []) c.loop-node.invariant.lists
          ∙ sym (map-range_with_len_more (edges_from graph) 0 node node (omega arith));
      cost =
          let before = c.loop-node.invariant.cost in
          let here = c.append_edges_from.ensures.cost in
          let next = leaving_next graph.edges node (length graph.nodes) (let t = c.loop-node-test.true in let n = c.len-number.ensures.number in omega arith) in
          omega arith;
    }

pub returns-in_err-append_edges_from-clause-cost : goal.returns-in_err-append_edges_from-clause-cost
returns-in_err-append_edges_from-clause-cost g c =
    let node = c.loop-node.node in
    let graph = c.args.graph.now.value in
    let before = c.loop-node.invariant.cost in
    let here = c.append_edges_from.ensures.cost in
    let next = leaving_next graph.edges node (length graph.nodes) (let t = c.loop-node-test.true in let n = c.len-number.ensures.number in omega arith) in
    let left = let t = c.loop-node-test.true in let n = c.len-number.ensures.number in let l : node < length graph.nodes = omega arith in l in
    omega arith

pub returns-in_err-push-clause-cost : goal.returns-in_err-push-clause-cost
returns-in_err-push-clause-cost g c =
    let node = c.loop-node.node in
    let graph = c.args.graph.now.value in
    let before = c.loop-node.invariant.cost in
    let here = c.append_edges_from.ensures.cost in
    let next = leaving_next graph.edges node (length graph.nodes) (let t = c.loop-node-test.true in let n = c.len-number.ensures.number in omega arith) in
    let left = let t = c.loop-node-test.true in let n = c.len-number.ensures.number in let l : node < length graph.nodes = omega arith in l in
    omega arith
