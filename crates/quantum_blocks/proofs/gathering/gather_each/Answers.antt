use Rattle.std.proofs.Common.{ℤ, ◌+◌, ◌*◌, map, filter, sym, ◌∙◌, ap, arith, ◌<◌, slice_index_or, subst}
use Rattle.std.proofs.Math.ListN.{drop_of_length-le}
use Rattle.mix_rules.specs.Mixing.{total}
use Rattle.std.proofs.lemmas.Int.{ints}
use Rattle.conn_graph.specs.declared.edges.Edge.{Edge}
use Rattle.meaning.specs.Values.{part}
use Rattle.quantum_blocks.specs.Blocks.{frame_of}
use Rattle.quantum_blocks.specs.Fits.{IsSource}
use Rattle.quantum_blocks.specs.Connections.{leads_to, no_edge}
use Rattle.quantum_blocks.specs.Waiting.{AreWaiting, waiting_at}
use Rattle.quantum_blocks.proofs.Connections.{total_step}
use Rattle.quantum_blocks.proofs.gathering.gather_each.Goals as goal

pub hear-waiting-requires-clause-source : goal.hear-waiting-requires-clause-source
hear-waiting-requires-clause-source c = subst (λ q. IsSource q c.args.counts.now c.args.blocks.now (slice_index_or c.args.into.now c.loop-edge.edge-index no_edge)) (sym (c.loop-edge.invariant.frames ∙ c.clear.ensures.frames)) (c.requires.sources c.loop-edge.edge-index no_edge c.loop-edge-test.true)

pub hear-waiting-requires-clause-added : goal.hear-waiting-requires-clause-added
hear-waiting-requires-clause-added c =
    let few = c.requires.few in
    let added = c.loop-edge.invariant.added in
    let there = c.loop-edge-test.true in
    omega (arith, few, added, there)

pub hear-waiting-requires-clause-waiting : goal.hear-waiting-requires-clause-waiting
hear-waiting-requires-clause-waiting c = subst (λ q. AreWaiting (c.args.inlet.count * q) c.loop-edge.waiting) (sym c.loop-edge.invariant.frames) c.loop-edge.invariant.waiting

pub loop-edge-preserved : goal.loop-edge-preserved
loop-edge-preserved c = record {
  frames = c.hear-waiting.ensures.frames ∙ c.loop-edge.invariant.frames;
  count = c.hear-waiting.ensures.count;
  added = let a = c.hear-waiting.ensures.added in let b = c.loop-edge.invariant.added in omega (arith, a, b);
  waiting = subst (λ q. AreWaiting (c.args.inlet.count * q) c.hear-waiting.result) c.loop-edge.invariant.frames c.hear-waiting.ensures.waiting;
  sums = λ w channel m in_range now.
      let f : Edge → ℤ = part (frame_of w c.args.blocks.now c.args.counts.now m) c.args.inlet.interp c.args.inlet.count channel in
      let step = total_step c.args.inlet.target f c.args.into.now c.loop-edge.edge-index no_edge c.loop-edge-test.true in
      let whole = c.loop-edge.invariant.sums w channel m in_range now in
      let same = c.loop-edge.invariant.frames in
      let added = c.hear-waiting.ensures.sums w channel m in_range (subst (λ q. m < q) (sym same) now) in
      let before = ap (λ q. waiting_at c.loop-edge.waiting (channel * q + m)) same in
      let after = ap (λ q. waiting_at c.hear-waiting.result (channel * q + m)) same in
      omega (arith, ints, step, whole, added, before, after);
}

pub add_waiting-requires-clause-added : goal.add_waiting-requires-clause-added
add_waiting-requires-clause-added c =
    let few = c.requires.few in
    let added = c.loop-edge.invariant.added in
    let within = c.loop-edge.auto.edge-index-end in
    omega (arith, few, added, within)

pub add_waiting-requires-clause-waiting : goal.add_waiting-requires-clause-waiting
add_waiting-requires-clause-waiting c = subst (λ q. AreWaiting (c.args.inlet.count * q) c.loop-edge.waiting) (sym c.loop-edge.invariant.frames) c.loop-edge.invariant.waiting

pub returns-clause-sums : goal.returns-clause-sums
returns-clause-sums c w channel m in_range now =
    let f : Edge → ℤ = part (frame_of w c.args.blocks.now c.args.counts.now m) c.args.inlet.interp c.args.inlet.count channel in
    let same = c.loop-edge.invariant.frames in
    let now' = subst (λ q. m < q) (sym c.clear.ensures.frames) now in
    let whole = c.loop-edge.invariant.sums w channel m in_range now' in
    let all = c.add_waiting.ensures.sums channel m in_range (subst (λ q. m < q) (sym same) now') in
    let at = ap (λ q. waiting_at c.loop-edge.waiting (channel * q + m)) same in
    let none = ap (λ es. total (map f (filter (leads_to c.args.inlet.target) es))) (drop_of_length-le c.args.into.now c.loop-edge-test.false) in
    omega (arith, ints, whole, all, at, none)
