use Rattle.std.proofs.Common.{ℕ, ◌≡◌, ◌<◌, ◌*◌, ◌/◌, length, slice_index_or}
use Rattle.wa_base.specs.Contexts.{quantum_of}
use Rattle.node_table.specs.Kinds.{outputs}
use Rattle.meaning.specs.World.{kind_of}
use Rattle.quantum_blocks.specs.Blocks.{no_block}
use Rattle.quantum_blocks.proofs.blocks.fit_each.Given as goal

-- the blocks so far have their lanes and their frames
abbrev pub invariant-loop-node : goal.invariant-loop-node
invariant-loop-node l = record {
  length : length l.blocks ≡ length l.counts;
  each : (k : ℕ) → k < 2 * l.node → (slice_index_or l.blocks k no_block).lanes ≡ outputs (kind_of l.world (k / 2)) * slice_index_or l.counts k 1;
  frames : (k : ℕ) → k < 2 * l.node → (slice_index_or l.blocks k no_block).frames ≡ quantum_of l.world.spec;
}
