use Rattle.std.proofs.Common.{◌≡◌}
use Rattle.derivations.specs.Groups.{edge_group, source_keys}
use Rattle.derivations.specs.Contexts.{IsPast}
use Rattle.derivations.proofs.led.next_led.Given as goal

-- the search came to this connection
abbrev pub invariant-loop-group : goal.invariant-loop-group
invariant-loop-group l = record {
  here : l.place.group ≡ l.group;
  past : IsPast l.context (λ q tape a. edge_group l.target (source_keys q tape a l.frame) l.edges) l.place;
}
