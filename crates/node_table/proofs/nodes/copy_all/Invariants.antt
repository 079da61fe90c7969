use Rattle.std.proofs.Common.{◌≡◌, ◌≤◌, take, length, vec_capacity}
use Rattle.node_table.proofs.nodes.copy_all.Given as goal

abbrev pub invariant-loop-node : goal.invariant-loop-node
invariant-loop-node l = (l.copies.items ≡ take l.node-index l.nodes) × (length l.nodes ≤ vec_capacity l.copies)
