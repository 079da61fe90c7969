use Rattle.delay_line.proofs.Picks.{mix_repeats}
use Rattle.delay_line.proofs.sources.source_of.Goals as goal

pub returns-clause-value : goal.returns-clause-value
returns-clause-value c = λ frame. mix_repeats c.args.interp c.args.from c.args.to c.args.channel c.form_source.result frame c.form_source.ensures.form c.form_source.ensures.needed
