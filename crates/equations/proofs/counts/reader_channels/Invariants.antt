use Rattle.std.proofs.Common.{◌≡◌, ◌≤◌, ◌-◌}
use Rattle.std.specs.Prelude.{max}
use Rattle.mix_rules.specs.Counts.{greatest}
use Rattle.conn_graph.specs.Ends.{writer_of}
use Rattle.meaning.specs.Lists.{since}
use Rattle.equations.specs.Given.{meaning_of}
use Rattle.equations.proofs.counts.reader_channels.Given as goal

-- the most so far
abbrev pub invariant-loop-earlier : goal.invariant-loop-earlier
invariant-loop-earlier l = record {
  value : l.most ≡ greatest (since (λ k. (meaning_of l.context).counts k (writer_of l.fn.node.0)) l.first (l.earlier - l.first));
  here : l.earlier ≤ max l.first l.earlier-end;
}
