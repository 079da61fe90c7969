use Rattle.load_gen.proofs.Counting.{calls_counted}
use Rattle.load_gen.proofs.generator.count_law.Goals as goal

pub returns : goal.returns
returns c = calls_counted c.args.number
