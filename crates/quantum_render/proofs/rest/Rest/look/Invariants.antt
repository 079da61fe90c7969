use Rattle.std.proofs.Common.{◌≡◌, length}
use Rattle.quantum_render.specs.Idle.{AreIdle}
use Rattle.quantum_render.proofs.rest.Rest.look.Given as goal

-- the ends with a mark so far are idle
abbrev pub invariant-loop-end : goal.invariant-loop-end
invariant-loop-end l = record {
  count : length l.marks ≡ length l.initial.marks;
  idle : AreIdle l.fn.census.world.now l.counts l.fn.census.first l.ahead.until l.marks l.blocks;
}
