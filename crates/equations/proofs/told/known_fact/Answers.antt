use Rattle.equations.proofs.Saying.{said_value, said_cells}
use Rattle.equations.proofs.told.known_fact.Goals as goal

pub returns-clause-value : goal.returns-clause-value
returns-clause-value c = said_value c.args.context c.requires.given c.args.key c.in-Some.fact c.in-Some.ensures.found.0 c.in-Some.ensures.found.1

pub returns-clause-cells : goal.returns-clause-cells
returns-clause-cells c = said_cells c.args.context c.requires.given c.args.key c.in-Some.fact c.in-Some.ensures.found.0 c.in-Some.ensures.found.1
