use Rattle.std.proofs.Common.{ℕ, ◌≡◌, ◌<◌, ◌≤◌, length, take, max, slice_index_or, None}
use Rattle.meaning.specs.World.{kind_of, node_at}
use Rattle.delay_bank.specs.Kept.{first_delay}
use Rattle.delay_bank.specs.Banks.{AreOf}
use Rattle.delay_bank.proofs.delays.add_delays.Given as goal

-- the delays of so many nodes are there, the old ones in front
abbrev pub invariant-loop-node : goal.invariant-loop-node
invariant-loop-node l = record {
  long : length l.delays.items ≡ l.node;
  more : length l.initial.delays.items ≤ length l.delays.items;
  fewer : l.node ≤ max (length l.initial.delays.items) (length l.world.nodes);
  kept : take (length l.initial.delays.items) l.delays.items ≡ l.initial.delays.items;
  each : AreOf l.quantum l.initial.delays.items → AreOf l.quantum l.delays.items;
  fresh : (n : ℕ) → length l.initial.delays.items ≤ n → n < l.node → slice_index_or l.delays.items n None ≡ first_delay l.quantum (kind_of l.world n) (node_at l.world n).attrs.birth;
}
