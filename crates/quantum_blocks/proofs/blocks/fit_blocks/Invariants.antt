use Rattle.std.proofs.Common.{◌≡◌, length}
use Rattle.quantum_blocks.proofs.blocks.fit_blocks.Given as goal

-- so many blocks are there
abbrev pub invariant-loop : goal.invariant-loop
invariant-loop l = length l.blocks.items ≡ l.counter
