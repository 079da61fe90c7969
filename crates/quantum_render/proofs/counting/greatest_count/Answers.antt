use Rattle.std.proofs.Common.{ℕ, map, filter, arith}
use Rattle.conn_graph.specs.declared.edges.Edge.{Edge}
use Rattle.conn_graph.specs.Ends.{reader_of}
use Rattle.quantum_blocks.specs.Blocks.{counts_in}
use Rattle.quantum_blocks.specs.Connections.{leads_to, no_edge}
use Rattle.quantum_render.proofs.CountingLaws.{greatest_low, greatest_step}
use Rattle.quantum_render.proofs.counting.greatest_count.Goals as goal

pub loop-edge-init : goal.loop-edge-init
loop-edge-init c = record {
  value = let low = greatest_low (map (λ (e : Edge). counts_in c.args.counts.now (reader_of e.from.0)) (filter (leads_to c.args.target) c.args.into.now)) in omega arith;
  low = omega arith;
  high = omega arith;
}

pub loop-edge-preserved : goal.loop-edge-preserved
loop-edge-preserved c =
    let f : Edge → ℕ = λ e. counts_in c.args.counts.now (reader_of e.from.0) in
    let step = greatest_step c.args.target f c.args.into.now c.loop-edge.edge-index no_edge c.loop-edge-test.true in
    let whole = c.loop-edge.invariant.value in
    let heard = c.count_heard.ensures.value in
    let most = c.greater-greatest.ensures in
    let high = c.count_heard.ensures.high in
    let low' = c.loop-edge.invariant.low in
    let high' = c.loop-edge.invariant.high in
    record {
      value = omega (arith, step, whole, heard, most);
      low = omega (arith, most);
      high = omega (arith, most);
    }
