use Rattle.std.proofs.Common.{◌≡◌}
use Rattle.wa_base.specs.declared.graph_names.End.{End}
use Rattle.quantum_blocks.specs.Blocks.{counts_in}
use Rattle.quantum_render.proofs.Along.{HoldsUpTo}
use Rattle.quantum_render.proofs.counting.have_one.Given as goal

abbrev pub invariant-loop-end : goal.invariant-loop-end
invariant-loop-end l = HoldsUpTo (λ (d : End). counts_in l.counts d ≡ 1) l.muted l.end-index
