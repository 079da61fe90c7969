use Rattle.std.proofs.Common.{◌∙◌}
use Rattle.session.proofs.Standing.{first_session, renders_nothing}
use Rattle.session.proofs.session.Session.new.Goals as goal

pub returns-clause-ok : goal.returns-clause-ok
returns-clause-ok c =
    let machine = c.in_ok-control.ensures.machine in
    let lines = c.in_ok-reserve.ensures.items in
    let none = c.new-lines.ensures in
    let valid = rw machine at c.in_ok-control.ensures.valid in
    first_session _ _ _ (λ i. record { machine = machine i; lines = (lines ∙ none) i }) c.in-Ok.ensures.some c.new-2.ensures.items valid (renders_nothing c.in-Ok.side c.in-Ok.ensures.stands)
