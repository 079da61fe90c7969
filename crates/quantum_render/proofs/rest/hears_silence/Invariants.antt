use Rattle.std.proofs.Common.{ℕ, ◌<◌, slice_index_or}
use Rattle.conn_graph.specs.declared.edges.Edge.{Edge}
use Rattle.quantum_render.specs.Idle.{BringsSilence}
use Rattle.quantum_render.proofs.rest.hears_silence.Given as goal

-- those so far bring silence
abbrev pub invariant-loop-edge : goal.invariant-loop-edge
invariant-loop-edge l = (i : ℕ) (d : Edge) → i < l.edge-index → BringsSilence l.marks l.blocks (slice_index_or l.into i d)
