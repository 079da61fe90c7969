use Rattle.std.proofs.Common.{◌≡◌}
use Rattle.derivations.specs.Groups.{writer_count_group}
use Rattle.derivations.specs.Contexts.{IsPast}
use Rattle.derivations.proofs.counts.next_writer_count.Given as goal

-- the search came to this quantum
abbrev pub invariant-loop-group : goal.invariant-loop-group
invariant-loop-group l = record {
  here : l.place.group ≡ l.group;
  past : IsPast l.context (λ q tape a. writer_count_group q tape a l.fn.quantum l.fn.node.0) l.place;
}
