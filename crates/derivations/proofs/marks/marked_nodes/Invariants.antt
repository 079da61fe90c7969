use Rattle.std.proofs.Common.{ℕ, ◌≡◌, ◌<◌, length, take, slice_index_or, false}
use Rattle.std.specs.List.{list_any}
use Rattle.derivations.proofs.Listing.{has_number_of}
use Rattle.derivations.proofs.marks.marked_nodes.Given as goal

-- the nodes that were listed so far are marked
abbrev pub invariant-loop-node : goal.invariant-loop-node
invariant-loop-node l = record {
  long : length l.marks.items ≡ l.nodes;
  each : (n : ℕ) → n < l.nodes → slice_index_or l.marks.items n false ≡ list_any (has_number_of n) (take l.node-index l.listed);
}
