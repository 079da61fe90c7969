use Rattle.std.proofs.Common.{◌≡◌}
use Rattle.quantum_render.specs.Idle.{KeepBlocks}
use Rattle.quantum_render.proofs.Passing.{Passing}
use Rattle.quantum_render.proofs.pass.render_quantum.Given as goal

abbrev pub invariant-loop-end : goal.invariant-loop-end
invariant-loop-end l = record {
  frames : l.bench.frames ≡ l.initial.bench.frames;
  kept : KeepBlocks l.quantum.world.now l.quantum.idle.now l.fn.blocks l.blocks;
  passing : Passing l.quantum.world.now l.plan.order l.end-index l.quantum.counts.now l.quantum.first l.initial.memory l.memory l.blocks;
}
