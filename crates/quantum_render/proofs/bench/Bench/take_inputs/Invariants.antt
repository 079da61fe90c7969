use Rattle.std.proofs.Common.{ℕ, ◌≡◌, ◌<◌}
use Rattle.wa_base.specs.Contexts.{quantum_of}
use Rattle.meaning.specs.World.{sounding}
use Rattle.meaning.specs.Counts.{input_channels}
use Rattle.meaning.specs.Values.{input_value}
use Rattle.quantum_blocks.specs.Blocks.{at, counts_in}
use Rattle.quantum_render.specs.Renders.{here_of}
use Rattle.quantum_render.proofs.bench.Bench.take_inputs.Given as goal

-- the frames, and the lanes of the inputs so far
abbrev pub invariant-loop-input : goal.invariant-loop-input
invariant-loop-input l = record {
  frames : l.self.frames ≡ quantum_of l.site.world.spec;
  lanes : l.self.merged.lanes ≡ l.inputs;
  so_far : ((i : ℕ) → i < l.inputs → 1 ≡ input_channels (sounding l.site.world) (counts_in l.site.counts) l.site.end.node.0 i)
      → (i m : ℕ) → i < l.input → m < quantum_of l.site.world.spec → at l.self.merged i m ≡ input_value (here_of l.site l.blocks m) l.site.end.node.0 i 0;
}
