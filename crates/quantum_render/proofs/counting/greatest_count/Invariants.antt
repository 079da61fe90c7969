use Rattle.std.proofs.Common.{◌≡◌, ◌≤◌, map, drop, filter, max}
use Rattle.mix_rules.specs.Counts.{greatest}
use Rattle.conn_graph.specs.Ends.{reader_of}
use Rattle.quantum_blocks.specs.Blocks.{counts_in}
use Rattle.quantum_blocks.specs.Connections.{leads_to}
use Rattle.quantum_render.proofs.counting.greatest_count.Given as goal

-- the greatest so far and the greatest of what is left are the greatest of all
abbrev pub invariant-loop-edge : goal.invariant-loop-edge
invariant-loop-edge l = record {
  value : max l.greatest (greatest (map (λ e. counts_in l.counts (reader_of e.from.0)) (filter (leads_to l.target) (drop l.edge-index l.into))))
      ≡ greatest (map (λ e. counts_in l.counts (reader_of e.from.0)) (filter (leads_to l.target) l.into));
  low : 1 ≤ l.greatest;
  high : l.greatest ≤ 32;
}
