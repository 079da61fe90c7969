use Rattle.std.proofs.Common.{ℕ, ◌≡◌, ◌<◌, length, take, slice_index_or, false}
use Rattle.std.specs.List.{list_any}
use Rattle.derivations.proofs.Listing.{is_of_node}
use Rattle.derivations.proofs.marks.marked_ends.Given as goal

-- the nodes that were listed so far are marked
abbrev pub invariant-loop-end : goal.invariant-loop-end
invariant-loop-end l = record {
  long : length l.marks.items ≡ l.nodes;
  each : (n : ℕ) → n < l.nodes → slice_index_or l.marks.items n false ≡ list_any (is_of_node n) (take l.end-index l.listed);
}
