use Rattle.std.proofs.Common.{[], get_or, ap, ◌∙◌}
use Rattle.cycle_order.specs.Links.{sources}
use Rattle.cycle_order.proofs.Links.{none_linked}
use Rattle.cycle_order.proofs.turned.Turned.new.Goals as goal

pub returns-clause-none : goal.returns-clause-none
returns-clause-none c v = ap (λ ls. get_or (sources ls c.in_ok-firsts.firsts.items) v []) c.new-links.ensures.items ∙ none_linked c.in_ok-firsts.firsts.items v
