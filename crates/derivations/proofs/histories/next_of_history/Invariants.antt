use Rattle.std.proofs.Common.{◌≡◌}
use Rattle.derivations.specs.Groups.{history_group}
use Rattle.derivations.specs.Contexts.{IsPast}
use Rattle.derivations.proofs.histories.next_of_history.Given as goal

-- the search came to this frame
abbrev pub invariant-loop-ago : goal.invariant-loop-ago
invariant-loop-ago l = record {
  here : l.place.group ≡ l.ago;
  past : IsPast l.context (λ q tape a. history_group q tape a l.fn.frame l.fn.node.0 l.fn.channel) l.place;
}
