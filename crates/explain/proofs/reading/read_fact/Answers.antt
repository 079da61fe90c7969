use Rattle.explain.proofs.FactReading.{no_text}
use Rattle.explain.proofs.reading.read_fact.Goals as goal

pub returns-in-Err-clause-none : goal.returns-in-Err-clause-none
returns-in-Err-clause-none c = no_text c.args.line.now c.in-Err.ensures.cases.0
