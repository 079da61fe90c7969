use Rattle.std.proofs.Common.{◌∙◌, sym}
use Rattle.delay_bank.specs.Kept.{between}
use Rattle.delay_bank.proofs.Keeping.{all_alike}
use Rattle.delay_bank.proofs.spans.Spans.are_within.Goals as goal

pub returns-in-Steady : goal.returns-in-Steady
returns-in-Steady c = c.is_within.ensures ∙ sym (all_alike (between c.args.least c.args.most) c.args.self.now c.in-Steady.span c.requires c.in-Steady.ensures)
