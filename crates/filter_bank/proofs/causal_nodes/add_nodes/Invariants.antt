use Rattle.std.proofs.Common.{ℕ, ◌≡◌, ◌<◌, ◌≤◌, length, take, max, slice_index_or, None}
use Rattle.meaning.specs.World.{kind_of, node_at}
use Rattle.filter_bank.specs.Heard.{first_heard}
use Rattle.filter_bank.proofs.causal_nodes.add_nodes.Given as goal

-- so many nodes are there, the old ones in front
abbrev pub invariant-loop-node : goal.invariant-loop-node
invariant-loop-node l = record {
  long : length l.nodes.items ≡ l.node;
  more : length l.initial.nodes.items ≤ length l.nodes.items;
  fewer : l.node ≤ max (length l.initial.nodes.items) (length l.world.nodes);
  kept : take (length l.initial.nodes.items) l.nodes.items ≡ l.initial.nodes.items;
  fresh : (n : ℕ) → length l.initial.nodes.items ≤ n → n < l.node → slice_index_or l.nodes.items n None ≡ first_heard (kind_of l.world n) (node_at l.world n).attrs.birth;
}
