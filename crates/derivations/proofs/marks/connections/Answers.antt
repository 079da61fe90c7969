use Rattle.std.proofs.Common.{ℕ, suc, ◌≡◌, ◌+◌, ◌++◌, sym, ◌∙◌, ap, arith}
use Rattle.std.specs.Prelude.{filter}
use Rattle.std.specs.List.{flat_map, range_with_len}
use Rattle.conn_graph.specs.Cells.{leaves}
use Rattle.derivations.proofs.Parts.{parts, flat_more}
use Rattle.derivations.proofs.marks.connections.Goals as goal

pub loop-node-preserved : goal.loop-node-preserved
loop-node-preserved g c =
    let node : ℕ = c.loop-node.node in
    let graph = c.args.graph.now.value in
    let f = λ (n : ℕ). filter (leaves n) graph.edges in
    c.in_ok-append_from.ensures
    ∙ ap (λ es. es ++ f node) c.loop-node.invariant
    ∙ ap (λ n. flat_map f (range_with_len 0 node) ++ f n) (let e : node ≡ 0 + node = omega arith in e)
    ∙ sym (flat_more f node 0)
    ∙ ap (λ n. flat_map f (range_with_len 0 n)) (let e : suc node ≡ node + 1 = omega arith in e)

pub returns : goal.returns
returns g c =
    let edges = c.args.graph.now.value.edges in
    let whole = c.len-node-end.ensures.whole in
    c.loop-node.invariant
    ∙ ap (λ n. flat_map (λ node. filter (leaves node) edges) (range_with_len 0 n)) (omega arith)
    ∙ parts c.len-node-end.result 0 edges whole.ordered (λ e m. let a = (whole.places e m).from in let b = c.len-node-end.ensures.number in omega arith)
