use Rattle.std.proofs.Common.{ℕ, List, ◌≡◌, ◌+◌, ◌*◌, ◌/◌, ◌<◌, ◌≤◌, length, slice_index_or, sym, ◌∙◌, ap, ap₂, arith, subst}
use Rattle.std.proofs.lemmas.List.{get_or_default, length-set}
use Rattle.wa_base.specs.Contexts.{quantum_of}
use Rattle.node_table.specs.declared.rows.Row.{Row}
use Rattle.node_table.specs.Kinds.{outputs}
use Rattle.meaning.specs.declared.world.World.{World}
use Rattle.meaning.specs.World.{kind_of}
use Rattle.meaning.proofs.NodeKinds.{kind_is}
use Rattle.quantum_blocks.specs.Blocks.{slot, counts_in}
use Rattle.quantum_blocks.proofs.Connections.{two_set}
use Rattle.quantum_blocks.proofs.Slots.{slot_low, slot-half}
use Rattle.quantum_blocks.proofs.Sources.{end_low}
use Rattle.quantum_blocks.proofs.blocks.fit_each.Goals as goal

-- the lanes of a place of a node
product : (w : World) (counts : List ℕ) (node k o : ℕ) → k / 2 ≡ node → k < length counts → o ≡ outputs (kind_of w node)
    → o * slice_index_or counts k 0 ≡ outputs (kind_of w (k / 2)) * slice_index_or counts k 1
product w counts node k o half low is = ap₂ (λ (a b : ℕ). a * b) (is ∙ ap (λ n. outputs (kind_of w n)) (sym half)) (get_or_default counts k 0 1 low)

pub fit-requires-clause-lanes : goal.fit-requires-clause-lanes
fit-requires-clause-lanes c =
    let w = c.args.world.now in
    let node = c.loop-node.node in
    let within = c.loop-node-test.true in
    let places = c.requires.range.places in
    let low : 2 * node < length c.args.counts.now = omega arith in
    let is = kind_is w node c.kind.result.now (omega arith) c.kind.ensures.value in
    subst (λ n. n ≤ 32) (sym (product w c.args.counts.now node (2 * node) c.row-outputs.result.outputs (omega arith) low (ap (λ (r : Row). r.outputs) c.row-outputs.ensures ∙ ap outputs (sym is)))) (c.requires.range.lanes (2 * node) low)

pub fit-requires-in-loop-node-clause-lanes : goal.fit-requires-in-loop-node-clause-lanes
fit-requires-in-loop-node-clause-lanes c =
    let w = c.args.world.now in
    let node = c.loop-node.node in
    let within = c.loop-node-test.true in
    let places = c.requires.range.places in
    let low : 2 * node + 1 < length c.args.counts.now = omega arith in
    let is = kind_is w node c.kind.result.now (omega arith) c.kind.ensures.value in
    subst (λ n. n ≤ 32) (sym (product w c.args.counts.now node (2 * node + 1) c.row-outputs.result.outputs (omega arith) low (ap (λ (r : Row). r.outputs) c.row-outputs.ensures ∙ ap outputs (sym is)))) (c.requires.range.lanes (2 * node + 1) low)

pub loop-node-preserved : goal.loop-node-preserved
loop-node-preserved c =
    let w = c.args.world.now in
    let counts = c.args.counts.now in
    let node = c.loop-node.node in
    let within = c.loop-node-test.true in
    let places = c.requires.range.places in
    let long = c.loop-node.invariant.length in
    let first = c.fit.new.self in
    let second = c.fit-in-loop-node.new.self in
    let is = kind_is w node c.kind.result.now (omega arith) c.kind.ensures.value in
    let outs = ap (λ (r : Row). r.outputs) c.row-outputs.ensures ∙ ap outputs (sym is) in
    let fits = two_set (λ k b. (b.lanes ≡ outputs (kind_of w (k / 2)) * slice_index_or counts k 1) × (b.frames ≡ quantum_of w.spec)) c.loop-node.blocks node first second (omega arith)
    (λ k low. (c.loop-node.invariant.each k low, c.loop-node.invariant.frames k low))
    (c.in_ok-fit.ensures.lanes ∙ product w counts node (2 * node) c.row-outputs.result.outputs (omega arith) (omega arith) outs, c.in_ok-fit.ensures.frames)
    (c.in_ok-fit-2.ensures.lanes ∙ product w counts node (2 * node + 1) c.row-outputs.result.outputs (omega arith) (omega arith) outs, c.in_ok-fit-2.ensures.frames) in
    record {
      length = length-set _ (2 * node + 1) second ∙ length-set c.loop-node.blocks (2 * node) first ∙ long;
      each = λ k low. let both = fits k low in both.0;
      frames = λ k low. let both = fits k low in both.1;
    }

pub returns : goal.returns
returns c =
    let long = c.loop-node.invariant.length in
    let places = c.requires.range.places in
    record {
      places = long ∙ places;
      lanes = λ e is.
          let low = slot_low e (length c.args.world.now.nodes) (end_low c.args.world.now c.requires.valid e is) in
          c.loop-node.invariant.each (slot e) (let end = c.loop-node-test.false in omega arith)
          ∙ ap (λ n. outputs (kind_of c.args.world.now n) * counts_in c.args.counts.now e) (slot-half e);
      frames = λ e is.
          let low = slot_low e (length c.args.world.now.nodes) (end_low c.args.world.now c.requires.valid e is) in
          c.loop-node.invariant.frames (slot e) (let end = c.loop-node-test.false in omega arith);
    }
