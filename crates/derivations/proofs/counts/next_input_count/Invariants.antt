use Rattle.std.proofs.Common.{◌≡◌}
use Rattle.conn_graph.specs.Ends.{reader_of}
use Rattle.explain.specs.declared.facts.Key.TheVariants.{Count}
use Rattle.derivations.specs.Groups.{edge_group, input_of, one}
use Rattle.derivations.specs.Contexts.{IsPast}
use Rattle.derivations.proofs.counts.next_input_count.Given as goal

-- the search came to this connection
abbrev pub invariant-loop-group : goal.invariant-loop-group
invariant-loop-group l = record {
  here : l.place.group ≡ l.group;
  past : IsPast l.context (λ q tape a. edge_group (input_of l.fn.node.0 0) (λ x. one (Count l.fn.quantum (reader_of x.from.0) x.output)) l.edges) l.place;
}
